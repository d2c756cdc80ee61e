use Rattle.std.proofs.Common.{◌≡◌, arith, subst}
use Rattle.bridge_check.specs.Reach.{some_number_passes, reaches_queue}
use Rattle.net_latency.proofs.Gathered.{below_more}
use Rattle.net_latency.proofs.traffic.can_wait_at_port.Goals as goal

pub loop-class-preserved : goal.loop-class-preserved
loop-class-preserved g c =
    let before = c.loop-class-test.true in
    (omega (arith, before), below_more c.loop-class.class (λ d. reaches_queue c.args.plan.now c.args.filter.now c.args.port d) c.loop-class.found c.is_reached-here.result c.either-found.result c.either-found.ensures c.loop-class.invariant.1 c.is_reached-here.ensures)

pub returns : goal.returns
returns g c =
    let past = c.loop-class-test.false in
    let few = c.loop-class.invariant.0 in
    let end : c.loop-class.class ≡ 8 = omega (arith, past, few) in
    subst (λ k. c.loop-class.found ≡ some_number_passes k (λ d. reaches_queue c.args.plan.now c.args.filter.now c.args.port d)) end c.loop-class.invariant.1
