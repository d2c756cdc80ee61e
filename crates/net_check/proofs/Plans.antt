-- Plans, read one after another.
use Rattle.std.proofs.Common.{◌≡◌, ℕ, List, ◌++◌, ◌∷◌, [], Option, Some, length, inl, inr, sym, subst, ◌∙◌, ap, slice_get}
use Rattle.bridge_config.specs.Model.{Plan}
use Rattle.bridge_limits.proofs.Lists.{pushed}
use Rattle.net_file.specs.Model.{Bridge}
use Rattle.net_check.specs.Networks.{AddsPlanAt, ArePlansAt, IsPlanAt, beside}

some_is : {X : Type 0} (a b : X) → Some a ≡ Some b → a ≡ b
some_is a b same = cc

-- The plan of one more bridge.
pub add_plan : {A : Type 0} (octets_at : List ℕ → Option (List ℕ)) (path : List ℕ) (bridges : List Bridge) (old new : List (Plan A)) (b : Bridge)
    → slice_get bridges (length old) ≡ Some b → ArePlansAt octets_at path bridges old → AddsPlanAt octets_at (beside path b.plan) old new → ArePlansAt octets_at path bridges new
add_plan octets_at path bridges old new b here are (p, grown, is) = λ i x q at told.
    elim (pushed old p q i (ap (λ l. slice_get l i) (sym grown) ∙ told)) [
      | inl before ↦ are i x q at before
      | inr last ↦ (
          let same : b ≡ x = some_is b x (sym here ∙ (ap (slice_get bridges) (sym last.0) ∙ at)) in
          subst (IsPlanAt octets_at (beside path x.plan)) last.1 (subst (λ (y : Bridge). IsPlanAt octets_at (beside path y.plan) p) same is))
    ]
