use Rattle.std.proofs.Common.{arith, ◌<◌, ◌≤◌}
use Rattle.bridge_cycle.proofs.Searching.{searched_open, searched_closed, searched_below}
use Rattle.bridge_cycle.proofs.Turns.{same_to_end, shut_there, open_there}
use Rattle.bridge_cycle.proofs.fit_search.first_fit.Goals as goal

pub overflow_add-start : goal.overflow_add-start
overflow_add-start g c =
    let below : c.loop-seen.start ≤ c.requires.some.0 = searched_below _ _ _ _ _ _ c.loop-seen.invariant c.requires.some.1 c.requires.some.3 in
    omega arith

pub turn-turn-requires : goal.turn-turn-requires
turn-turn-requires g c =
    let below : c.loop-seen.start ≤ c.requires.some.0 = searched_below _ _ _ _ _ _ c.loop-seen.invariant c.requires.some.1 c.requires.some.3 in
    omega arith

pub loop-seen-smaller-then-not-is_open : goal.loop-seen-smaller-then-not-is_open
loop-seen-smaller-then-not-is_open g c =
    let below : c.loop-seen.start ≤ c.requires.some.0 = searched_below _ _ _ _ _ _ c.loop-seen.invariant c.requires.some.1 c.requires.some.3 in
    let on : c.loop-seen.seen < c.turn-turn.result.end = g.met.L.Timeline.goes_on _ _ _ c.turn-turn.ensures.lawful c.turn-turn.ensures.turn in
    omega arith

pub loop-seen-smaller : goal.loop-seen-smaller
loop-seen-smaller g c =
    let below : c.loop-seen.start ≤ c.requires.some.0 = searched_below _ _ _ _ _ _ c.loop-seen.invariant c.requires.some.1 c.requires.some.3 in
    let on : c.loop-seen.seen < c.turn-turn.result.end = g.met.L.Timeline.goes_on _ _ _ c.turn-turn.ensures.lawful c.turn-turn.ensures.turn in
    omega arith

pub loop-seen-preserved-then-not-is_open : goal.loop-seen-preserved-then-not-is_open
loop-seen-preserved-then-not-is_open g c =
    let turn_at = g.L.Timeline.turn_at c.args.timeline.now in
    let lawful = c.turn-turn.ensures.lawful in
    let on : c.loop-seen.seen < c.turn-turn.result.end = g.met.L.Timeline.goes_on _ _ _ lawful c.turn-turn.ensures.turn in
    searched_closed _ _ _ _ _ _ c.loop-seen.invariant on c.loop-seen-test.true (λ u p q. shut_there turn_at c.args.class u c.turn-turn.result _ (same_to_end turn_at (λ t x. g.met.L.Timeline.begins _ t x lawful) (λ t u x. g.met.L.Timeline.same _ t u x lawful) _ _ c.turn-turn.ensures.turn u p q) c.is_open.ensures c.if-not-is_open.true)

pub loop-seen-preserved : goal.loop-seen-preserved
loop-seen-preserved g c =
    let turn_at = g.L.Timeline.turn_at c.args.timeline.now in
    let lawful = c.turn-turn.ensures.lawful in
    let on : c.loop-seen.seen < c.turn-turn.result.end = g.met.L.Timeline.goes_on _ _ _ lawful c.turn-turn.ensures.turn in
    searched_open _ _ _ _ _ _ c.loop-seen.invariant on (λ u p q. open_there turn_at c.args.class u c.turn-turn.result _ (same_to_end turn_at (λ t x. g.met.L.Timeline.begins _ t x lawful) (λ t u x. g.met.L.Timeline.same _ t u x lawful) _ _ c.turn-turn.ensures.turn u p q) c.is_open.ensures c.if-not-is_open.false)
