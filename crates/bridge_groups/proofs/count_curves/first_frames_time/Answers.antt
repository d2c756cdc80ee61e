use Rattle.std.proofs.Common.{arith}
use Rattle.bridge_groups.proofs.LinearCurves.{counts_rise}
use Rattle.bridge_groups.proofs.count_curves.first_frames_time.Goals as goal

pub returns-clause-earlier : goal.returns-clause-earlier
returns-clause-earlier c w h =
    let rise = counts_rise c.args.counts.now w c.loop-low.low c.requires.counts (omega (arith, h)) in
    let before = c.loop-low.invariant.before in
    omega (arith, rise, before)
