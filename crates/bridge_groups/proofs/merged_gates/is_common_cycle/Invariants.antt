use Rattle.std.proofs.Common.{◌≡◌, ◌%◌, drop}
use Rattle.std.specs.Prelude.{nat_eq}
use Rattle.std.specs.List.{list_all}
use Rattle.bridge_cycle.specs.Cyclic.{Cyclic}
use Rattle.bridge_gate.specs.declared.schedule.GateEntry.{GateEntry}
use Rattle.bridge_groups.proofs.merged_gates.is_common_cycle.Given as goal

abbrev pub invariant-loop-list : goal.invariant-loop-list
invariant-loop-list g l = list_all (λ (x : Cyclic GateEntry). nat_eq (l.cycle % x.cycle) 0) (drop l.list-index l.lists) ≡ list_all (λ (x : Cyclic GateEntry). nat_eq (l.cycle % x.cycle) 0) l.fn.lists
