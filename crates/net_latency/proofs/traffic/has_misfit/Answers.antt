use Rattle.std.proofs.Common.{◌≡◌, ◌+◌, arith, subst}
use Rattle.bridge_check.specs.Reach.{some_number_passes}
use Rattle.net_latency.specs.Traffic.{has_misfit_at_port}
use Rattle.net_latency.proofs.Gathered.{below_more}
use Rattle.net_latency.proofs.traffic.has_misfit.Goals as goal

pub loop-place-preserved : goal.loop-place-preserved
loop-place-preserved g c =
    let before = c.loop-place-test.true in
    (omega (arith, before), below_more c.loop-place.place (λ i. has_misfit_at_port c.args.plan.now c.args.filter.now c.args.period (i + 1)) c.loop-place.found c.has_misfit_at_port-here.result c.either-found.result c.either-found.ensures c.loop-place.invariant.1 c.has_misfit_at_port-here.ensures)

pub returns : goal.returns
returns g c =
    let past = c.loop-place-test.false in
    let few = c.loop-place.invariant.0 in
    let end : c.loop-place.place ≡ 16 = omega (arith, past, few) in
    subst (λ k. c.loop-place.found ≡ some_number_passes k (λ i. has_misfit_at_port c.args.plan.now c.args.filter.now c.args.period (i + 1))) end c.loop-place.invariant.1
