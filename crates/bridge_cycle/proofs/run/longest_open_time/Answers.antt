use Rattle.std.proofs.Common.{ℕ, ◌+◌, ◌<◌, ◌-◌, arith, max, Bool}
use Rattle.bridge_cycle.specs.Opens.{turn_opens}
use Rattle.bridge_cycle.proofs.Runs.{Ran, ran_open, ran_closed, ran_done}
use Rattle.bridge_cycle.proofs.Turns.{same_to_end, shut_there, open_there}
use Rattle.bridge_cycle.proofs.run.longest_open_time.Goals as goal

pub loop-seen-preserved : goal.loop-seen-preserved
loop-seen-preserved g c =
    let turn_at = g.L.Timeline.turn_at c.args.timeline.now in
    let lawful = c.turn-turn.ensures.lawful in
    let on : c.loop-seen.seen < c.turn-turn.result.end = g.met.L.Timeline.goes_on _ _ _ lawful c.turn-turn.ensures.turn in
    ran_closed _ _ _ _ _ c.loop-seen.invariant on (λ u p q. shut_there turn_at c.args.class u c.turn-turn.result _ (same_to_end turn_at (λ t x. g.met.L.Timeline.begins _ t x lawful) (λ t u x. g.met.L.Timeline.same _ t u x lawful) _ _ c.turn-turn.ensures.turn u p q) c.is_open.ensures c.if-is_open.false)

pub loop-seen-preserved-then-is_open : goal.loop-seen-preserved-then-is_open
loop-seen-preserved-then-is_open g c =
    let turn_at = g.L.Timeline.turn_at c.args.timeline.now in
    let lawful = c.turn-turn.ensures.lawful in
    let on : c.loop-seen.seen < c.turn-turn.result.end = g.met.L.Timeline.goes_on _ _ _ lawful c.turn-turn.ensures.turn in
    let opens : ℕ → Bool = λ v. turn_opens (turn_at v) c.args.class in
    let next : Ran opens (max (c.loop-seen.run + (c.turn-turn.result.end - c.loop-seen.seen)) c.loop-seen.longest) (c.loop-seen.run + (c.turn-turn.result.end - c.loop-seen.seen)) c.turn-turn.result.end = ran_open opens _ _ _ _ c.loop-seen.invariant on (λ u p q. open_there turn_at c.args.class u c.turn-turn.result _ (same_to_end turn_at (λ t x. g.met.L.Timeline.begins _ t x lawful) (λ t u x. g.met.L.Timeline.same _ t u x lawful) _ _ c.turn-turn.ensures.turn u p q) c.is_open.ensures c.if-is_open.true) in
    rw c.max-longest.ensures next

pub returns : goal.returns
returns g c = ran_done _ _ _ _ _ c.loop-seen.invariant (let e = c.cycle-end.ensures.cycle in omega arith)
