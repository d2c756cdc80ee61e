use Rattle.std.proofs.Common.{suc, Option, sym, ap, subst, ◌∙◌}
use Rattle.std.specs.Prelude.{Vec}
use Rattle.net_report.specs.declared.sources.SourceFrame.{SourceFrame}
use Rattle.net_report.specs.Passes.{begun_of, contents, pass, traces}
use Rattle.net_report.specs.SourceFrames.{AreExhausted}
use Rattle.net_report.proofs.Passes.{begun_is, iterate_next}
use Rattle.net_report.proofs.Traced.{begun_sound}
use Rattle.net_report.proofs.sources.trace_source_frames.Goals as goal

pub loop-init : goal.loop-init
loop-init g c = record {
  many = c.in_ok-all.ensures.many;
  sound = begun_sound c.args.links.now c.args.hops.now c.in_ok-all.all.items c.in_ok-all.ensures.begun c.in_ok-all.ensures.first c.in_ok-all.ensures.each;
  traced = (0, begun_is c.args.hops.now c.in_ok-all.all.items c.in_ok-all.ensures.many c.in_ok-all.ensures.begun c.in_ok-all.ensures.first c.in_ok-all.ensures.each);
}

pub trace_all-requires : goal.trace_all-requires
trace_all-requires g c = record { many = c.loop.invariant.many }

pub loop-preserved : goal.loop-preserved
loop-preserved g c =
    let ensured = c.in_ok-trace_all.ensures in
    let f = pass c.args.links.now (traces c.args.hops.now) in
    let (n, reached) = c.loop.invariant.traced in
    record {
      many = ensured.many;
      sound = ensured.sound c.loop.invariant.sound;
      traced = (suc n, ensured.traced c.loop.invariant.sound ∙ (ap f reached ∙ sym (iterate_next f n (begun_of (traces c.args.hops.now)))));
    }

pub returns-then-not-branch : goal.returns-then-not-branch
returns-then-not-branch g c =
    let ensured = c.in_ok-trace_all.ensures in
    let sound = ensured.sound c.loop.invariant.sound in
    let none = c.if-not-branch.true in
    let f = pass c.args.links.now (traces c.args.hops.now) in
    let same = ap (λ (v : Vec (Vec (Option SourceFrame) g.row.A.Denot) g.row.A.Denot). contents v.items) (ensured.same none) in
    let (n, reached) = c.loop.invariant.traced in
    record {
      many = ensured.many;
      from = sound.from;
      first = sound.first;
      each = sound.each;
      exhausted = subst (λ (v : Vec (Vec (Option SourceFrame) g.row.A.Denot) g.row.A.Denot). AreExhausted c.args.links.now c.args.hops.now v.items) (sym (ensured.same none)) (ensured.exhausted none);
      traced = record { passes = n; reached = same ∙ reached; still = ap f same ∙ sym (ensured.traced c.loop.invariant.sound) };
    }
