-- Frames of a complete run leave within the bounds that are printed.
use Rattle.std.proofs.Common.{◌≡◌, ◌<◌, ◌≤◌, ◌+◌, ◌⊎◌, ℕ, Option, Some, List, arith, refl, sym, subst, inl, inr, ◌∙◌}
use Rattle.std.proofs.lemmas.Option.{same_Some}
use Rattle.bridge_limits.specs.Members.{IsMember}
use Rattle.bridge_frame.specs.Link.{transmission_time}
use Rattle.bridge_port.specs.Schedule.{Copy, Started}
use Rattle.bridge_config.specs.declared.command.Command.{Command}
use Rattle.bridge_config.specs.declared.ports.PortPlan.{PortPlan}
use Rattle.bridge_config.specs.Model.{Plan}
use Rattle.bridge_config.specs.Rules.{IsPlan, find_port}
use Rattle.bridge_check.specs.Acceptable.{IsAcceptable}
use Rattle.bridge_semantics.specs.Events.{Event}
use Rattle.bridge_semantics.specs.Merge.{input_events}
use Rattle.bridge_semantics.specs.Offers.{CarriedFrame}
use Rattle.bridge_semantics.specs.Runs.{AreFinished, IsRun}
use Rattle.bridge_semantics.specs.declared.outcome.Outcome.{Outcome}
use Rattle.bridge_bounds.specs.GateFrames.{AreWithinLengths}
use Rattle.bridge_bounds.proofs.Whole.{in_tight_bound}
use Rattle.bridge_groups.specs.Curves.{AreArrivalsInOrder, HasNoRunts}
use Rattle.bridge_groups.specs.GateBounds.{HaveSdus, IsGateWorkBound, IsLeastBound, IsPaddedBound}
use Rattle.bridge_groups.proofs.GateRuns.{left_by_gate}
use Rattle.bridge_groups.proofs.Limits.{captured_sdus, padded_sdus}
use Rattle.bridge_groups.proofs.MergedOrder.{merged_arrivals_are_in_order}
use Rattle.bridge_core.specs.WholeRuns.{IsWholeRun}
use Rattle.app_networks.proofs.Lengths.{are_within}

-- THE RUN OF A BRIDGE

module _ {A : Type 0} (p : Plan A) (es : List Event) (moments : ℕ → ℕ) (lists : ℕ → List (Copy CarriedFrame)) (q s : ℕ) (out : PortPlan A) (x : Copy CarriedFrame) (plan : IsPlan p) (good : IsAcceptable p) (run : IsRun p es moments lists) (whole : AreFinished lists) (order : AreArrivalsInOrder es) (at : find_port p.ports q ≡ Some out) (listed : IsMember x (lists q)) (started : x.fate ≡ Started s) where
  -- A bound by what the gate passes holds if all SDUs have the octets that it counts.
  by_work : (n share b : ℕ) → HaveSdus share es → IsGateWorkBound p n q x.class share b → s + transmission_time x.item.len out.speed ≤ x.at + b
  by_work n share b sdus is =
      let same : is.out ≡ out = same_Some is.out out (sym is.at ∙ at) in
      let own = left_by_gate p n q x.class share b is plan good es moments lists run whole order sdus s x listed refl started in
      subst (λ (z : PortPlan A). s + transmission_time x.item.len z.speed ≤ x.at + b) same own

  pub left_in_least_bound : (n b : ℕ) → AreWithinLengths es → x.item.flow ≡ Some n → IsLeastBound p n q x.class b → s + transmission_time x.item.len out.speed ≤ x.at + b
  left_in_least_bound n b within flow (a, tight, which) = elim which [
    | inl same ↦
        let done = in_tight_bound p n a es moments lists q s out x plan good run whole within at listed flow started tight in
        omega (arith, done, same)
    | inr lesser ↦ by_work n 2 b (captured_sdus es within) lesser.0
  ]

  left_in_padded_bound : (n a b : ℕ) → HasNoRunts es → IsPaddedBound p n q x.class a b → s + transmission_time x.item.len out.speed ≤ x.at + b
  left_in_padded_bound n a b long is = by_work n 44 b (padded_sdus es long) is.0

-- A RUN OVER CAPTURES

module _ {A W : Type 0} (p : Plan A) (ports : List ℕ) (commands : List Command) (texts : ℕ → List ℕ) (contents : W → Option (List ℕ)) (olds news : List W) (o : Outcome A) (q s : ℕ) (out : PortPlan A) (x : Copy CarriedFrame) (ran : IsWholeRun p ports commands texts contents olds news o) (plan : IsPlan p) (good : IsAcceptable p) (at : find_port p.ports q ≡ Some out) (listed : IsMember x (ran.ends.lists q)) (started : x.fate ≡ Started s) where
  order : AreArrivalsInOrder (input_events ran.inputs)
  order = merged_arrivals_are_in_order commands ran.frames ran.inputs ran.merged

  pub in_least_bound : (n b : ℕ) → x.item.flow ≡ Some n → IsLeastBound p n q x.class b → s + transmission_time x.item.len out.speed ≤ x.at + b
  in_least_bound n b flow is =
      let within = are_within p commands texts ran.frames ran.inputs ran.reads ran.others ran.merged in
      left_in_least_bound p (input_events ran.inputs) ran.ends.outcome.moments ran.ends.lists q s out x plan good ran.ends.outcome.run ran.ends.outcome.whole order at listed started n b within flow is

  pub in_padded_bound : (n a b : ℕ) → HasNoRunts (input_events ran.inputs) → IsPaddedBound p n q x.class a b → s + transmission_time x.item.len out.speed ≤ x.at + b
  in_padded_bound n a b long is = left_in_padded_bound p (input_events ran.inputs) ran.ends.outcome.moments ran.ends.lists q s out x plan good ran.ends.outcome.run ran.ends.outcome.whole order at listed started n a b long is
