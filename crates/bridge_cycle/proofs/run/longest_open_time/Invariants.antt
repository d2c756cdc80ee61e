use Rattle.std.proofs.Common.{◌-◌}
use Rattle.bridge_cycle.specs.Opens.{turn_opens}
use Rattle.bridge_cycle.proofs.Runs.{Ran}
use Rattle.bridge_cycle.proofs.run.longest_open_time.Given as goal

abbrev pub invariant-loop-seen : goal.invariant-loop-seen
invariant-loop-seen g l = Ran (λ v. turn_opens (g.L.Timeline.turn_at l.timeline v) l.class) l.longest l.run l.seen

abbrev pub decreases-loop-seen : goal.decreases-loop-seen
decreases-loop-seen g l = l.end - l.seen
