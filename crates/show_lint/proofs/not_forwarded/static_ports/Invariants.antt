use Rattle.std.proofs.Common.{◌≡◌, drop}
use Rattle.bridge_forward.specs.Database.{static_ports}
use Rattle.show_lint.proofs.not_forwarded.static_ports.Given as goal

abbrev pub invariant-loop-entry : goal.invariant-loop-entry
invariant-loop-entry l = static_ports (drop l.entry-index l.statics) l.vid l.address ≡ static_ports l.statics l.vid l.address
