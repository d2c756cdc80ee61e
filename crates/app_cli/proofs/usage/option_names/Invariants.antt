use Rattle.std.proofs.Common.{◌≡◌, map, take}
use Rattle.clap.specs.Words.{Text}
use Rattle.app_cli.specs.Usages.{has_option, is_among}
use Rattle.app_cli.proofs.Usages.{rules_of_all}
use Rattle.app_cli.proofs.usage.option_names.Given as goal

abbrev pub invariant-loop-command : goal.invariant-loop-command
invariant-loop-command l =
    (name : Text) → is_among name (map (λ known. known.now) l.names.items) ≡ has_option name (rules_of_all (λ d. d.now) (take l.command-index l.command-items))
