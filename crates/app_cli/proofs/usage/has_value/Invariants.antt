use Rattle.std.proofs.Common.{◌≡◌, drop}
use Rattle.app_cli.specs.Usages.{option_value}
use Rattle.app_cli.proofs.Usages.{rules_of_all}
use Rattle.app_cli.proofs.usage.has_value.Given as goal

abbrev pub invariant-loop-command : goal.invariant-loop-command
invariant-loop-command l = option_value l.name (rules_of_all (λ d. d.now) l.command-items) ≡ option_value l.name (rules_of_all (λ d. d.now) (drop l.command-index l.command-items))
