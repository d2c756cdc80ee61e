use Rattle.std.proofs.Common.{◌≡◌, Bool, true, false, sym, subst, inl, inr}
use Rattle.std.specs.Bool.{IsTrue}
use Rattle.net_model.specs.declared.step.Step.{Step}
use Rattle.net_model.specs.Walks.{IsOnLoop}
use Rattle.net_model.proofs.Filtered.{in_all, in_take}
use Rattle.net_model.proofs.Laid.{first_step}
use Rattle.net_model.proofs.loop_port.first_loop_port.Goals as goal

untrue : (b : Bool) → b ≡ false → ¬ IsTrue b
untrue true is t = absurd (cc)
untrue false is t = absurd (cc)

pub loop-step-preserved : goal.loop-step-preserved
loop-step-preserved g c = λ s i round. elim (in_take c.args.steps.now c.loop-step.step-index _ s c.loop-step-test.true i) [
  | inl j ↦ c.loop-step.invariant s j round
  | inr e ↦ untrue c.in_ok-is_on_loop.field-0 c.if-branch.false (c.in_ok-is_on_loop.ensures.1 (subst (λ (t : Step). IsOnLoop c.args.steps.now t.from) e round))
]

pub returns-clause-none : goal.returns-clause-none
returns-clause-none g c = λ is x round.
    let s = first_step c.args.steps.now x x round.0 round.1 in
    c.loop-step.invariant s.0 (in_all c.args.steps.now c.loop-step.step-index s.0 c.loop-step-test.false s.1) (subst (IsOnLoop c.args.steps.now) (sym s.2) round)
