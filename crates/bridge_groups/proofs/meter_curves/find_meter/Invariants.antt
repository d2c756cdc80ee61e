use Rattle.std.proofs.Common.{◌≡◌, drop, nat_eq}
use Rattle.std.specs.Map.{lookup}
use Rattle.bridge_groups.proofs.meter_curves.find_meter.Given as goal

abbrev pub invariant-loop-meter : goal.invariant-loop-meter
invariant-loop-meter l = lookup (nat_eq l.number) (drop l.meter-index l.meters) ≡ lookup (nat_eq l.number) l.fn.meters
