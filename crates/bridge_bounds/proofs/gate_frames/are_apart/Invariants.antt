use Rattle.std.proofs.Common.{◌-◌}
use Rattle.bridge_cycle.specs.Cyclic.{turn_by_time}
use Rattle.bridge_bounds.proofs.Apart.{AreShutBehind}
use Rattle.bridge_bounds.proofs.gate_frames.are_apart.Given as goal

abbrev pub invariant-loop-seen : goal.invariant-loop-seen
invariant-loop-seen g l = AreShutBehind (turn_by_time l.list) l.apart l.seen

abbrev pub decreases-loop-seen : goal.decreases-loop-seen
decreases-loop-seen g l = l.cycle - l.seen
