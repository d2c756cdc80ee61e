use Rattle.std.proofs.Common.{take}
use Rattle.gate_networks.specs.Coming.{AllIncoming}
use Rattle.gate_networks.proofs.rounds.inputs.inputs_by_bridge.Given as goal

abbrev pub invariant-loop-accepted : goal.invariant-loop-accepted
invariant-loop-accepted l = AllIncoming (take l.accepted-index l.plans) l.all.items
