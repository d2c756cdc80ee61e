use Rattle.std.proofs.Common.{◌+◌, ◌++◌, ◌∷◌, [], All, subst, sym, take}
use Rattle.std.proofs.lemmas.List.{take_more}
use Rattle.std.proofs.lemmas.List.Elements.{All-push}
use Rattle.net_latency.specs.Bounds.{AreLeastBounds, HasValidPort}
use Rattle.net_latency.specs.Streams.{AreQueueBoundsOfPlans}
use Rattle.net_latency.proofs.Bounded.{more_bounds}
use Rattle.net_latency.proofs.streams.all_queue_bounds.Goals as goal

pub loop-accepted-preserved : goal.loop-accepted-preserved
loop-accepted-preserved g c =
    let plans = c.args.plans.now in
    let i = c.loop-accepted.accepted-index in
    let olds = c.loop-accepted.bounds.items in
    let rows = c.in-Ok.rows in
    let more = more_bounds (take i plans) olds _ rows c.loop-accepted.invariant.are_bounds (subst (λ p. AreLeastBounds p rows.items) c.accepted-item.is c.in-Ok.ensures.bounds) in
    record {
      are_bounds = subst (λ vs. AreQueueBoundsOfPlans (take (i + 1) plans) vs) (sym c.in-Ok-push.ensures.items)
          (subst (λ ps. AreQueueBoundsOfPlans ps (olds ++ rows ∷ [])) (sym (take_more plans i _ c.loop-accepted-test.true)) more);
      placed = subst (λ vs. All (λ v. All HasValidPort v.items) vs) (sym c.in-Ok-push.ensures.items)
          (All-push (λ v. All HasValidPort v.items) olds rows c.loop-accepted.invariant.placed c.in-Ok.ensures.placed);
    }
