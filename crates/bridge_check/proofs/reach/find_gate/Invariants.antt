use Rattle.std.proofs.Common.{◌≡◌, drop, nat_eq}
use Rattle.std.specs.Map.{lookup}
use Rattle.bridge_check.proofs.reach.find_gate.Given as goal

abbrev pub invariant-loop-gate : goal.invariant-loop-gate
invariant-loop-gate g l = lookup (nat_eq l.number) (drop l.gate-index l.gates) ≡ lookup (nat_eq l.number) l.gates
