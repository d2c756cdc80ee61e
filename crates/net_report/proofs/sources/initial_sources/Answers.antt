use Rattle.std.proofs.Common.{◌≡◌, ◌∷◌, [], ℕ, List, Some, length, sym, ap, subst, ◌∙◌, arith}
use Rattle.std.specs.Prelude.{nat_eq, slice_get}
use Rattle.std.proofs.lemmas.List.{length-append}
use Rattle.std.proofs.lemmas.Option.{slice_get-get_or}
use Rattle.bridge_semantics.specs.declared.outcome.Origin.{Origin}
use Rattle.net_report.specs.declared.copy_counting.HopRun.{HopRun}
use Rattle.net_report.specs.SourceFrames.{AreInitialSources, AreInitialSourcesOfHop, AreFirstHopFramesKnown, HaveEach}
use Rattle.net_report.proofs.Traced.{begun_more, each_begun, first_begun}
use Rattle.net_report.proofs.sources.initial_sources.Goals as goal

pub loop-place-preserved : goal.loop-place-preserved
loop-place-preserved g c =
    let items = c.in_ok-push.ensures.items in
    let many = c.loop-place.invariant.many in
    let within = c.loop-place-test.true in
    let longer = ap length items ∙ length-append c.loop-place.all.items (c.in_ok-roots.roots ∷ []) in
    let h = c.index-hops-place.result in
    let there : slice_get c.args.hops.now (length c.loop-place.all.items) ≡ Some h =
    ap (slice_get c.args.hops.now) many ∙ (slice_get-get_or c.args.hops.now c.loop-place.place h (omega (arith, within)) ∙ ap (λ (x : HopRun g.row.A.Denot). Some x) (sym c.index-hops-place.is)) in
    let own : AreInitialSourcesOfHop (nat_eq (length c.loop-place.all.items) 0) h.view.now.origins.items c.in_ok-roots.roots.items =
    subst (λ (n : ℕ). AreInitialSourcesOfHop (nat_eq n 0) h.view.now.origins.items c.in_ok-roots.roots.items) (sym many)
    (subst (λ (x : HopRun g.row.A.Denot). AreInitialSourcesOfHop (nat_eq c.loop-place.place 0) x.view.now.origins.items c.in_ok-roots.roots.items) (sym c.index-hops-place.is)
    (subst (λ (os : List Origin). AreInitialSourcesOfHop (nat_eq c.loop-place.place 0) os c.in_ok-roots.roots.items) c.deref.ensures.value c.in_ok-roots.ensures)) in
    record {
      many = omega (arith, longer, many);
      begun = subst (AreInitialSources c.args.hops.now) (sym items) (begun_more c.args.hops.now c.loop-place.all.items h c.in_ok-roots.roots there own c.loop-place.invariant.begun);
      first = subst (AreFirstHopFramesKnown c.args.hops.now) (sym items) (first_begun c.args.hops.now c.loop-place.all.items h c.in_ok-roots.roots there own c.loop-place.invariant.first);
      each = subst (HaveEach c.args.hops.now) (sym items) (each_begun c.args.hops.now c.loop-place.all.items h c.in_ok-roots.roots there own c.loop-place.invariant.each);
    }
