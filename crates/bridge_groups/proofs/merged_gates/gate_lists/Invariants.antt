use Rattle.std.proofs.Common.{◌++◌, List, drop}
use Rattle.bridge_cycle.specs.Cyclic.{Cyclic}
use Rattle.bridge_gate.specs.declared.schedule.GateEntry.{GateEntry}
use Rattle.bridge_groups.specs.MergedGates.{AreGateLists}
use Rattle.bridge_groups.proofs.merged_gates.gate_lists.Given as goal

abbrev pub invariant-loop-sharer : goal.invariant-loop-sharer
invariant-loop-sharer g l = (rest : List (Cyclic GateEntry)) → AreGateLists l.plan (drop l.sharer-index l.sharers) rest → AreGateLists l.plan l.fn.sharers (l.lists.items ++ rest)
