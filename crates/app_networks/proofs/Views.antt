-- The run of an accepted network has a record of each hop of its streams.
use Rattle.std.proofs.Common.{◌≡◌, ◌<◌, ℕ, true, List, [], ◌∷◌, length, Option, Some, None, Vec, nat_eq, refl, sym, ap, subst, ◌∙◌, inl, inr, arith}
use Rattle.std.specs.Prelude.{slice_get}
use Rattle.std.specs.Map.{lookup}
use Rattle.std.proofs.lemmas.Option.{same_Some, slice_get_within}
use Rattle.bridge_limits.specs.Members.{IsMember}
use Rattle.std.proofs.lemmas.Bool.{eq-eqb, false≢true}
use Rattle.bridge_limits.proofs.Cases.{by_bool}
use Rattle.bridge_limits.proofs.Lists.{there_is}
use Rattle.bridge_filter.specs.declared.FilterPlan.{FilterPlan}
use Rattle.bridge_config.specs.Model.{Plan}
use Rattle.bridge_semantics.specs.declared.outcome.Outcome.{Outcome}
use Rattle.bridge_semantics.specs.declared.outcome.View.{View}
use Rattle.net_file.specs.Model.{Stream}
use Rattle.net_file.specs.Model as file
use Rattle.net_model.specs.Faults as spec
use Rattle.net_model.specs.NetworkParts.{NetworkParts}
use Rattle.net_model.proofs.Closed.{numbered}
use Rattle.net_run.specs.declared.rounds.BridgeResult.{BridgeResult}
use Rattle.net_run.specs.declared.bridge_run.BridgeInput.{BridgeInput}
use Rattle.net_run.specs.Rounds.{AreOutcomes, RunsNetwork}
use Rattle.net_check.specs.Networks.{IsNetworkOfFile}
use Rattle.app_networks.specs.InTime.{HasView, HaveViews}
use Rattle.app_networks.proofs.Accepted.{hop_protected, placed}

-- The lookup of a number in the list finds a value.
looked_up : {X : Type 0} (xs : List (ℕ × X)) (m : ℕ) (x : X) → IsMember (m, x) xs → (y : X) × (lookup (nat_eq m) xs ≡ Some y)
looked_up [] m x i = absurd i
looked_up (y ∷ ys) m x i = by_bool (nat_eq m y.0)
    (λ k. (y.1, rw k refl))
    (λ k. elim i [
      | inl e ↦ absurd (false≢true (sym k ∙ eq-eqb m y.0 (ap (λ z. z.0) e)))
      | inr j ↦ let (z, is) = looked_up ys m x j in (z, rw k is)
    ])

-- The result of an optional bridge, or the result `o`.
abbrev outcome_or : {A : Type 0} → Option (BridgeResult A) → Outcome A → Outcome A
outcome_or None o = o
outcome_or (Some s) o = s.outcome

are_outcomes : {A : Type 0} (settled : List (BridgeResult A)) (o : Outcome A) → AreOutcomes settled (λ b. outcome_or (slice_get settled b) o)
are_outcomes settled o b s is = ap (λ x. outcome_or x o) is

pub have_views : {A : Type 0} (f : file.Network) (plans : List (Plan A)) (n : NetworkParts A) (came : List (BridgeInput A)) (settled : List (BridgeResult A)) → IsNetworkOfFile f plans n → spec.first_fault n ≡ None → RunsNetwork n came settled → HaveViews settled f.streams
have_views {A} f plans n came settled made none ran s is x i =
    let (k, below, at) = placed s.hops x i in
    let h = hop_protected f plans n s k x made none is at in
    let within = slice_get_within n.plans x.0 h.plan h.there in
    let many = ran.many in
    let told = there_is settled x.0 (omega (arith, within, many)) in
    let run = ran.run (λ b. outcome_or (slice_get settled b) told.0.outcome) (are_outcomes settled told.0.outcome) in
    let out = run.outcome x.0 h.plan h.there in
    let found = looked_up h.plan.filters x.1 h.filter h.listed in
    let view = (out.filters_are x.1).0 found in
    record {
      told = told.0;
      there = told.1;
      view = view.0;
      view_is = subst (λ (z : Outcome A). lookup (nat_eq x.1) z.filters.items ≡ Some view.0) (ap (λ y. outcome_or y told.0.outcome) told.1) view.1;
    }
