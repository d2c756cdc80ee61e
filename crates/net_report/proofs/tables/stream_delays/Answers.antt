use Rattle.std.proofs.Common.{List, Option, Vec, arith, subst, take}
use Rattle.std.proofs.lemmas.List.{take_all}
use Rattle.net_report.specs.declared.copy_counting.HopRun.{HopRun}
use Rattle.net_report.specs.declared.sources.SourceFrame.{SourceFrame}
use Rattle.net_report.specs.Tables.{AddDelays, AreDelays}
use Rattle.net_report.proofs.Tabled.{delays_at}
use Rattle.net_report.proofs.tables.stream_delays.Goals as goal

pub loop-place-preserved : goal.loop-place-preserved
loop-place-preserved g c =
    let h = c.index-hops-place.result in
    let k = c.index-known-place.result in
    delays_at c.args.links.now c.args.hops.now c.args.known.now c.loop-place.place h _ k _ c.loop-place.delays.items c.push_delays.new.delays.items
    c.requires c.loop-place-test.true c.index-hops-place.is c.index-known-place.is c.loop-place.invariant
    (subst (λ (roots : List (Option SourceFrame)). AddDelays c.args.links.now c.args.hops.now h roots c.loop-place.delays.items c.push_delays.new.delays.items) c.deref.ensures.value c.in_ok-push_delays.ensures)

pub returns : goal.returns
returns g c =
    let end = c.loop-place-test.false in
    let many = c.requires in
    subst (λ (hs : List (HopRun g.row.A.Denot)). AreDelays c.args.links.now c.args.hops.now hs c.args.known.now c.loop-place.delays.items) (take_all c.loop-place.place c.args.hops.now (omega (arith, end)))
    (subst (λ (ks : List (Vec (Option SourceFrame) g.row.A.Denot)). AreDelays c.args.links.now c.args.hops.now (take c.loop-place.place c.args.hops.now) ks c.loop-place.delays.items) (take_all c.loop-place.place c.args.known.now (omega (arith, end, many)))
    c.loop-place.invariant)
