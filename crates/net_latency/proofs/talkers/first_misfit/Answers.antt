use Rattle.std.proofs.Common.{◌≡◌, ℕ, ◌+◌, ◌<◌, Bool, true, false, cond, List, Some, length, drop, get_or, ap, sym, subst, ◌∙◌, arith}
use Rattle.std.proofs.lemmas.List.{at_drop_more, at_drop_all}
use Rattle.bridge_config.specs.Model.{Plan}
use Rattle.net_file.specs.declared.fault.NetField.TheVariants as field
use Rattle.net_file.specs.declared.fault.NetFault.TheVariants as net
use Rattle.net_file.specs.declared.fault.NetSection.TheVariants as section
use Rattle.net_file.specs.Model.{Stream}
use Rattle.net_latency.specs.Talkers as spec
use Rattle.net_latency.proofs.talkers.first_misfit.Goals as goal

-- A stream, and the later streams.
one_more : {A : Type 0} (plans : List (Plan A)) (i : ℕ) (ss : List Stream) (k : ℕ) (s : Stream) (t : Bool) → k < length ss → s ≡ get_or ss k s → t ≡ spec.suits_hops plans s.talker s.hops
    → spec.first_misfit plans i (drop k ss) ≡ cond t (spec.first_misfit plans (i + 1) (drop (k + 1) ss)) (Some (net.OutOfRange (record { section = section.Stream; index = i; field = field.Period })))
one_more plans i ss k s t there is holds =
    at_drop_more (spec.first_misfit plans i) ss k s there
    ∙ ap (λ b. cond b (spec.first_misfit plans (i + 1) (drop (k + 1) ss)) (Some (net.OutOfRange (record { section = section.Stream; index = i; field = field.Period }))))
    (ap (λ (x : Stream). spec.suits_hops plans x.talker x.hops) (sym is) ∙ sym holds)

pub loop-stream-preserved : goal.loop-stream-preserved
loop-stream-preserved g c =
    let plans = c.args.plans.now in
    let by_hops = subst (λ hops. true ≡ spec.suits_hops plans c.talker.result hops) c.hops.ensures c.if-not-suits_hops.ensures in
    let holds = subst (λ t. true ≡ spec.suits_hops plans t c.stream-item.result.hops) c.talker.ensures by_hops in
    record {
      index = omega (arith, c.loop-stream.invariant.index);
      same = sym (one_more plans c.loop-stream.index c.args.streams.now c.loop-stream.stream-index c.stream-item.result true c.loop-stream-test.true c.stream-item.is holds) ∙ c.loop-stream.invariant.same;
    }

pub returns-then-not-suits_hops : goal.returns-then-not-suits_hops
returns-then-not-suits_hops g c =
    let plans = c.args.plans.now in
    let by_hops = subst (λ hops. false ≡ spec.suits_hops plans c.talker.result hops) c.hops.ensures c.if-not-suits_hops.ensures in
    let fails = subst (λ t. false ≡ spec.suits_hops plans t c.stream-item.result.hops) c.talker.ensures by_hops in
    sym (one_more plans c.loop-stream.index c.args.streams.now c.loop-stream.stream-index c.stream-item.result false c.loop-stream-test.true c.stream-item.is fails) ∙ c.loop-stream.invariant.same

pub returns : goal.returns
returns g c = sym (at_drop_all (spec.first_misfit c.args.plans.now c.loop-stream.index) c.args.streams.now c.loop-stream.stream-index c.loop-stream-test.false) ∙ c.loop-stream.invariant.same
