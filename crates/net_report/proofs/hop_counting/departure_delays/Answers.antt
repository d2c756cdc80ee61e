use Rattle.std.proofs.Common.{◌++◌, ◌∙◌, ap}
use Rattle.net_report.specs.HopCounts.{delay_of}
use Rattle.net_report.proofs.Gathered.{flat_more}
use Rattle.net_report.proofs.hop_counting.departure_delays.Goals as goal

pub loop-departure-preserved : goal.loop-departure-preserved
loop-departure-preserved g c =
    c.in_ok-push_delay.ensures
    ∙ (ap (λ d. c.loop-departure.delays.items ++ delay_of c.args.ways.now c.args.roots.now d) (c.departure.ensures ∙ c.departure-item.is)
    ∙ flat_more (delay_of c.args.ways.now c.args.roots.now) c.args.departures.now c.loop-departure.departure-index c.departure-item.result c.loop-departure.delays.items c.loop-departure.invariant c.loop-departure-test.true)
