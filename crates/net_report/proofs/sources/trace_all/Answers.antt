use Rattle.std.proofs.Common.{◌≡◌, ◌<◌, ◌≤◌, ℕ, Option, length, refl, sym, ap, subst, ◌∙◌, arith}
use Rattle.std.specs.Prelude.{Vec}
use Rattle.std.proofs.lemmas.List.{length-map}
use Rattle.net_report.specs.declared.copy_counting.HopRun.{HopRun}
use Rattle.net_report.specs.declared.sources.SourceFrame.{SourceFrame}
use Rattle.net_report.specs.Passes.{contents, hop_step, trace_of, traces, upto}
use Rattle.net_report.specs.SourceFrames.{IsPortExhausted}
use Rattle.net_report.proofs.Passes.{upto_next}
use Rattle.net_report.proofs.Traced.{one_more}
use Rattle.net_report.proofs.sources.trace_all.Goals as goal

pub loop-place-preserved : goal.loop-place-preserved
loop-place-preserved g c =
    let before = c.loop-place.invariant in
    let here = c.in_ok-found.ensures in
    let links = c.args.links.now in
    let hops = c.args.hops.now in
    record {
      many = here.many;
      sound = λ are. here.sound (before.sound are);
      same = λ none. here.same (c.either-more.ensures.other none) ∙ before.same (c.either-more.ensures.one none);
      exhausted = λ none i q below. one_more (λ (n : ℕ). (q : ℕ) → 1 ≤ q → q < 17 → IsPortExhausted links hops c.args.all.now.items n q) c.loop-place.place
          (λ n l q from high. before.exhausted (c.either-more.ensures.one none) n q l from high)
          (subst (λ (v : Vec (Vec (Option SourceFrame) g.row.A.Denot) g.row.A.Denot). (q : ℕ) → 1 ≤ q → q < 17 → IsPortExhausted links hops v.items c.loop-place.place q) (before.same (c.either-more.ensures.one none)) (here.exhausted (c.either-more.ensures.other none)))
          i below q;
      traced = λ are. here.traced (before.sound are)
          ∙ (ap (hop_step links (traces hops) c.loop-place.place) (before.traced are)
          ∙ sym (upto_next (hop_step links (traces hops)) c.loop-place.place _ (contents c.args.all.now.items) refl));
    }

pub returns : goal.returns
returns g c =
    let end = c.loop-place-test.false in
    let most = c.loop-place.auto.place-end in
    let hops = c.args.hops.now in
    let long = length-map hops (λ (h : HopRun g.row.A.Denot). trace_of h) in
    let all : c.loop-place.place ≡ length (traces hops) = omega (arith, end, most, long) in
    record {
      many = c.loop-place.invariant.many;
      sound = c.loop-place.invariant.sound;
      same = c.loop-place.invariant.same;
      exhausted = λ none i q within from high. c.loop-place.invariant.exhausted none i q (omega (arith, within, end)) from high;
      traced = λ are. c.loop-place.invariant.traced are
          ∙ ap (λ (n : ℕ). upto (hop_step c.args.links.now (traces hops)) n (contents c.args.all.now.items)) all;
    }
