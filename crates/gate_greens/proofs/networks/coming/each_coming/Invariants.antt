use Rattle.std.proofs.Common.{take}
use Rattle.gate_greens.specs.Coming.{AllIncoming}
use Rattle.gate_greens.proofs.networks.coming.each_coming.Given as goal

abbrev pub invariant-loop-accepted : goal.invariant-loop-accepted
invariant-loop-accepted l = AllIncoming (take l.accepted-index l.plans) l.all.items
