use Rattle.std.proofs.Common.{◌≡◌, drop, map}
use Rattle.std.specs.List.{list_any}
use Rattle.std.specs.Str.{bytes_eq}
use Rattle.app_cli.proofs.usage.find_usage.Given as goal

abbrev pub invariant-loop-command : goal.invariant-loop-command
invariant-loop-command l =
    list_any (λ known. bytes_eq known l.name) (map (λ d. d.now.name.now) l.command-items)
    ≡ list_any (λ known. bytes_eq known l.name) (map (λ d. d.now.name.now) (drop l.command-index l.command-items))
