use Rattle.std.proofs.Common.{List, Option, Some, drop, nat_eq, sym, ap, ◌∙◌, arith}
use Rattle.std.specs.Prelude.{Vec}
use Rattle.net_report.specs.declared.copy_counting.HopRun.{HopRun}
use Rattle.net_report.specs.declared.sources.SourceFrame.{SourceFrame}
use Rattle.std.proofs.lemmas.Option.{slice_get-get_or}
use Rattle.net_report.specs.Counting.{with_hop}
use Rattle.net_report.proofs.Counted.{at_end, at_end_known, one_more}
use Rattle.net_report.proofs.copy_counting.count_hops.Goals as goal

pub returns-then-place-all : goal.returns-then-place-all
returns-then-place-all g c =
    let all = c.if-place-all.true in
    c.loop-place.invariant c.loop-place.tallies (at_end_known c.args.links.now c.args.hops.now (drop c.loop-place.place c.args.hops.now) c.args.all.now c.loop-place.place (nat_eq c.loop-place.place 0) c.loop-place.tallies (omega (arith, all)))

pub loop-place-preserved : goal.loop-place-preserved
loop-place-preserved g c =
    let within = c.loop-place-test.true in
    let known = c.if-place-all.false in
    let h = c.index-hops-place.result in
    let k = c.index-all-place.result in
    let there = slice_get-get_or c.args.hops.now c.loop-place.place h within ∙ ap (λ (x : HopRun g.row.A.Denot). Some x) (sym c.index-hops-place.is) in
    let known_there = slice_get-get_or c.args.all.now c.loop-place.place k (omega (arith, known)) ∙ ap (λ (x : Vec (Option SourceFrame) g.row.A.Denot). Some x) (sym c.index-all-place.is) in
    let same = c.in_ok-count_hop.ensures.2 ∙ ap (λ (roots : List (Option SourceFrame)). with_hop (nat_eq c.loop-place.place 0) c.in_ok-count_hop.ensures.0 roots c.loop-place.tallies h.view.now) c.deref.ensures.value in
    λ us more. c.loop-place.invariant us (one_more c.args.links.now c.args.hops.now c.args.hops.now c.args.all.now c.loop-place.place h k (nat_eq c.loop-place.place 0) c.in_ok-count_hop.ensures.0 c.loop-place.tallies _ us there known_there c.in_ok-count_hop.ensures.1 same more)

pub returns : goal.returns
returns g c =
    let end = c.loop-place-test.false in
    c.loop-place.invariant c.loop-place.tallies (at_end c.args.links.now c.args.hops.now c.args.hops.now (drop c.loop-place.place c.args.all.now) c.loop-place.place (nat_eq c.loop-place.place 0) c.loop-place.tallies (omega (arith, end)))
