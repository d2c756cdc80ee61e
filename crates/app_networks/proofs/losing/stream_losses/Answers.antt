use Rattle.std.proofs.Common.{arith, refl}
use Rattle.app_networks.proofs.Losses.{losses_all, losses_at}
use Rattle.app_networks.proofs.losing.stream_losses.Goals as goal

pub returns-then-place-runs : goal.returns-then-place-runs
returns-then-place-runs c =
    let within = c.loop-place-test.true in
    let past = c.if-place-runs.true in
    λ many. absurd (omega (arith, within, past, many))

pub loop-place-preserved : goal.loop-place-preserved
loop-place-preserved c =
    let there = c.if-place-runs.false in
    λ many. losses_at c.args.links.now c.args.runs.now c.args.bridges.now c.args.hops.now c.loop-place.place _ _ c.index-runs-place.result _ _ c.loop-place.all.items _
    c.loop-place-test.true (omega (arith, there)) (c.loop-place.invariant many) c.in_ok-loss.ensures refl c.index-runs-place.is c.in_ok-push.ensures.items

pub returns : goal.returns
returns c =
    λ many. losses_all c.args.links.now c.args.runs.now c.args.bridges.now c.args.hops.now c.loop-place.place c.loop-place.all.items c.loop-place-test.false many (c.loop-place.invariant many)
