use Rattle.std.proofs.Common.{◌≡◌, ℕ, Option, length, refl, sym, ap, subst, ◌∙◌, arith}
use Rattle.std.specs.Prelude.{Vec}
use Rattle.std.proofs.lemmas.List.{length-map}
use Rattle.net_model.specs.NetworkParts.{sender_value}
use Rattle.net_report.specs.declared.copy_counting.HopRun.{HopRun}
use Rattle.net_report.specs.declared.sources.SourceFrame.{SourceFrame}
use Rattle.net_report.specs.Passes.{contents, pair_step, trace_of, traces, upto}
use Rattle.net_report.specs.SourceFrames.{IsPairExhausted}
use Rattle.net_report.proofs.Passes.{upto_next}
use Rattle.net_report.proofs.Traced.{one_more}
use Rattle.net_report.proofs.sources.trace_sender.Goals as goal

pub loop-other-preserved : goal.loop-other-preserved
loop-other-preserved g c =
    let before = c.loop-other.invariant in
    let here = c.in_ok-found.ensures in
    let hops = c.args.hops.now in
    let s = sender_value c.args.sender in
    record {
      many = here.many;
      sound = λ links sends are. here.sound links sends (before.sound links sends are);
      same = λ none. here.same (c.either-more.ensures.other none) ∙ before.same (c.either-more.ensures.one none);
      exhausted = λ none. one_more (IsPairExhausted hops c.args.all.now.items s c.args.place c.args.port) c.loop-other.other
          (before.exhausted (c.either-more.ensures.one none))
          (subst (λ (v : Vec (Vec (Option SourceFrame) g.row.A.Denot) g.row.A.Denot). IsPairExhausted hops v.items s c.args.place c.args.port c.loop-other.other) (before.same (c.either-more.ensures.one none)) (here.exhausted (c.either-more.ensures.other none)));
      traced = λ links sends are. here.traced links sends (before.sound links sends are)
          ∙ (ap (pair_step (traces hops) s c.args.place c.args.port c.loop-other.other) (before.traced links sends are)
          ∙ sym (upto_next (pair_step (traces hops) s c.args.place c.args.port) c.loop-other.other _ (contents c.args.all.now.items) refl));
    }

pub returns : goal.returns
returns g c =
    let end = c.loop-other-test.false in
    let most = c.loop-other.auto.other-end in
    let hops = c.args.hops.now in
    let long = length-map hops (λ (h : HopRun g.row.A.Denot). trace_of h) in
    let all : c.loop-other.other ≡ length (traces hops) = omega (arith, end, most, long) in
    record {
      many = c.loop-other.invariant.many;
      sound = c.loop-other.invariant.sound;
      same = c.loop-other.invariant.same;
      exhausted = λ none j within. c.loop-other.invariant.exhausted none j (omega (arith, within, end));
      traced = λ links sends are. c.loop-other.invariant.traced links sends are
          ∙ ap (λ (n : ℕ). upto (pair_step (traces hops) (sender_value c.args.sender) c.args.place c.args.port) n (contents c.args.all.now.items)) all;
    }
