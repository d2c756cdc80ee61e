use Rattle.std.proofs.Common.{◌≡◌, map, take}
use Rattle.app_cli.proofs.usage.command_names.Given as goal

abbrev pub invariant-loop-command : goal.invariant-loop-command
invariant-loop-command l = map (λ name. name.now) l.names.items ≡ map (λ d. d.now.name.now) (take l.command-index l.command-items)
