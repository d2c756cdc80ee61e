use Rattle.std.proofs.Common.{◌∷◌, [], List, Option, Some, length, sym, ap, subst, ◌∙◌, arith}
use Rattle.std.specs.Prelude.{slice_get}
use Rattle.std.proofs.lemmas.List.{length-append}
use Rattle.std.proofs.lemmas.Option.{slice_get-get_or}
use Rattle.net_model.specs.NetworkParts.{sender_value}
use Rattle.net_report.specs.declared.sources.SourceFrame.{SourceFrame}
use Rattle.net_report.specs.SourceFrames.{IsTracedByFrame}
use Rattle.net_report.proofs.Traced.{traced_more}
use Rattle.net_report.proofs.sources.trace_from_sender.Goals as goal

pub returns-then-place-origins : goal.returns-then-place-origins
returns-then-place-origins g c =
    let many = c.loop-place.invariant.many in
    let before = c.loop-place.invariant.came in
    let within = c.loop-place-test.true in
    let past = c.if-place-origins.true in
    record {
      within = omega (arith, many, within);
      came = omega (arith, many, before);
      covers = λ k own there. omega (arith, many, past, there);
      each = c.loop-place.invariant.each;
    }

pub loop-place-preserved : goal.loop-place-preserved
loop-place-preserved g c =
    let items = c.in_ok-push.ensures.items in
    let many = c.loop-place.invariant.many in
    let within = c.loop-place-test.true in
    let inside = c.if-place-origins.false in
    let longer = ap length items ∙ length-append c.loop-place.made.items (c.trace_frame-root.result.0 ∷ []) in
    record {
      many = omega (arith, longer, many);
      came = omega (arith, inside);
      serve = c.trace_frame-root.ensures.left;
      each = subst (λ (l : List (Option SourceFrame)). IsTracedByFrame (sender_value c.args.sender) c.args.sent.now c.args.sent_roots.now c.args.port c.args.origins.now c.args.roots.now l) (sym items)
          (traced_more (sender_value c.args.sender) c.args.sent.now c.args.sent_roots.now c.args.port c.args.origins.now c.args.roots.now c.loop-place.made.items _ _ c.trace_frame-root.result.0
          (ap (slice_get c.args.roots.now) many ∙ slice_get-get_or c.args.roots.now c.loop-place.place _ (omega (arith, within)))
          (ap (slice_get c.args.origins.now) many ∙ (slice_get-get_or c.args.origins.now c.loop-place.place c.index-origins-place.result (omega (arith, inside)) ∙ ap (λ o. Some o) (sym (c.origin.ensures ∙ c.index-origins-place.is))))
          c.trace_frame-root.ensures.root c.loop-place.invariant.each);
    }

pub returns : goal.returns
returns g c =
    let many = c.loop-place.invariant.many in
    let before = c.loop-place.invariant.came in
    let past = c.loop-place-test.false in
    let end = c.loop-place.auto.place-end in
    record {
      within = omega (arith, many, end);
      came = omega (arith, many, before);
      covers = λ k own there. omega (arith, many, past, own);
      each = c.loop-place.invariant.each;
    }
