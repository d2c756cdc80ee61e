use Rattle.std.proofs.Common.{arith}
use Rattle.bridge_groups.proofs.MeterCurves.{IsSmallMeter, small_meter}
use Rattle.bridge_groups.proofs.meter_curves.burst_and_rate.Goals as goal

pub returns-then-own-clause-few : goal.returns-then-own-clause-few
returns-then-own-clause-few g c =
    let small : IsSmallMeter c.find_meter-own.result = rw (c.find_meter-own.ensures, c.meters.ensures.meters) (small_meter c.args.plan.now c.in-Some.number c.meters.ensures.rules) in
    let cbs = small.cbs in
    omega (arith, cbs)

pub returns-then-own-clause-slow : goal.returns-then-own-clause-slow
returns-then-own-clause-slow g c =
    let small : IsSmallMeter c.find_meter-own.result = rw (c.find_meter-own.ensures, c.meters.ensures.meters) (small_meter c.args.plan.now c.in-Some.number c.meters.ensures.rules) in
    let cir = small.cir in
    omega (arith, cir)

pub returns-else-own-clause-few : goal.returns-else-own-clause-few
returns-else-own-clause-few g c =
    let small : IsSmallMeter c.find_meter-own.result = rw (c.find_meter-own.ensures, c.meters.ensures.meters) (small_meter c.args.plan.now c.in-Some.number c.meters.ensures.rules) in
    let cbs = small.cbs in
    let ebs = small.ebs in
    omega (arith, cbs, ebs)

pub returns-else-own-clause-slow : goal.returns-else-own-clause-slow
returns-else-own-clause-slow g c =
    let small : IsSmallMeter c.find_meter-own.result = rw (c.find_meter-own.ensures, c.meters.ensures.meters) (small_meter c.args.plan.now c.in-Some.number c.meters.ensures.rules) in
    let cir = small.cir in
    let eir = small.eir in
    omega (arith, cir, eir)
