use Rattle.std.proofs.Common.{◌≡◌, arith, subst}
use Rattle.net_latency.specs.Bounds.{AreBoundsSoFar}
use Rattle.net_latency.proofs.Bounded.{next_filter}
use Rattle.net_latency.proofs.bounds.put_filter_bounds.Goals as goal

pub returns : goal.returns
returns g c =
    let end : c.loop-place.place ≡ 128 = let least = c.loop-place-test.false in let most = c.loop-place.auto.place-end in omega (arith, least, most) in
    record { one_more = next_filter c.args.accepted.now c.args.order.now c.args.at c.loop-place.rows.items (subst (λ k. AreBoundsSoFar c.args.accepted.now c.args.order.now c.args.at k c.loop-place.rows.items) end c.loop-place.invariant) }
