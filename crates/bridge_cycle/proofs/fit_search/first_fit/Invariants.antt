use Rattle.std.proofs.Common.{◌+◌, ◌-◌}
use Rattle.bridge_cycle.specs.Opens.{turn_opens}
use Rattle.bridge_cycle.proofs.Searching.{Searched}
use Rattle.bridge_cycle.proofs.fit_search.first_fit.Given as goal

abbrev pub invariant-loop-seen : goal.invariant-loop-seen
invariant-loop-seen g l = Searched (λ v. turn_opens (g.L.Timeline.turn_at l.timeline v) l.class) l.occ l.from l.start l.seen

abbrev pub decreases-loop-seen : goal.decreases-loop-seen
decreases-loop-seen g l = l.from + 4000000000 - l.seen
