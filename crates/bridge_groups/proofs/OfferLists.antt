-- Properties of the offers to a class that each frame keeps.
use Rattle.std.proofs.Common.{◌≡◌, ℕ, List, [], ◌∷◌, refl, subst, sym, inl, inr}
use Rattle.std.specs.Prelude.{nat_eq}
use Rattle.bridge_limits.proofs.Cases.{by_bool}
use Rattle.bridge_filter.specs.declared.Clear.{Clear}
use Rattle.bridge_config.specs.declared.ports.PortPlan.{PortPlan}
use Rattle.bridge_config.specs.Model.{Plan}
use Rattle.bridge_semantics.specs.Events.{Arrival, Arrived, Cleared, Event, frame_destination}
use Rattle.bridge_semantics.specs.Offers.{Offer, class_offers, port_offers}
use Rattle.bridge_groups.proofs.OneOffers.{one_by_way}

module _ {A : Type 0} (p : Plan A) (out : PortPlan A) (c : ℕ) (Fine : List Event → Type 0) (P : List Offer → Type 0) where
  abbrev offers : List Event → List Offer
  offers es = class_offers c (port_offers p out es)

  -- Holds if a frame's offer keeps the property.
  abbrev pub KeepsProperty : Type 0
  KeepsProperty = (a : Arrival) (es : List Event) (o : Offer) → Fine (Arrived a ∷ es) → offers (Arrived a ∷ es) ≡ o ∷ offers es → o.at ≡ a.at → P (offers es) → P (o ∷ offers es)

  arrived_keeps : KeepsProperty → (a : Arrival) (es : List Event) → Fine (Arrived a ∷ es) → P (offers es) → P (offers (Arrived a ∷ es))
  arrived_keeps one a es fine before = elim (one_by_way p out a es (frame_destination p a)) [
    | inl none ↦ rw none before
    | inr some ↦
        let (o, same, moment) = some in
        by_bool (nat_eq o.class c)
        (λ k.
        let list : offers (Arrived a ∷ es) ≡ o ∷ offers es = rw (same, k) refl in
        subst P (sym list) (one a es o fine list moment before))
        (λ k.
        let list : offers (Arrived a ∷ es) ≡ offers es = rw (same, k) refl in
        subst P (sym list) before)
  ]

  -- All offers to the class have the property.
  pub offers_keep : P [] → ((a : Arrival) (es : List Event) → Fine (Arrived a ∷ es) → Fine es) → ((d : Clear) (k : ℕ) (es : List Event) → Fine (Cleared d k ∷ es) → Fine es) → KeepsProperty → (es : List Event) → Fine es → P (offers es)
  offers_keep none behind uncommanded one [] fine = none
  offers_keep none behind uncommanded one (Cleared d k ∷ es) fine = offers_keep none behind uncommanded one es (uncommanded d k es fine)
  offers_keep none behind uncommanded one (Arrived a ∷ es) fine = arrived_keeps one a es fine (offers_keep none behind uncommanded one es (behind a es fine))
