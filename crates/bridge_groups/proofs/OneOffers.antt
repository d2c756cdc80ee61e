-- A frame offers one copy to a port, or none.
use Rattle.std.proofs.Common.{◌≡◌, ◌⊎◌, ℕ, List, [], ◌∷◌, refl, inl, inr}
use Rattle.bridge_limits.proofs.Cases.{by_bool}
use Rattle.bridge_forward.specs.Ports.{has_port}
use Rattle.bridge_filter.specs.declared.Verdict.{Verdict}
use Rattle.bridge_filter.specs.declared.Verdict.TheVariants as verdict
use Rattle.bridge_filter.specs.Verdicts.{Commanded, FilterStep, Judged, Unfiltered}
use Rattle.bridge_config.specs.declared.ports.PortPlan.{PortPlan}
use Rattle.bridge_config.specs.Model.{Plan}
use Rattle.bridge_semantics.specs.declared.destination.Destination.{Destination}
use Rattle.bridge_semantics.specs.declared.destination.Destination.TheVariants as way
use Rattle.bridge_semantics.specs.Events.{Arrival, Event}
use Rattle.bridge_semantics.specs.Offers.{Offer, destination_offer, frame_step, step_offer, verdict_offer}

abbrev IsOneOffer : ℕ → List Offer → Type 0
IsOneOffer at os = (os ≡ []) ⊎ ((o : Offer) × (os ≡ o ∷ []) × (o.at ≡ at))

one_by_verdict : {A : Type 0} (out : PortPlan A) (a : Arrival) (priority n own : ℕ) (v : Verdict) → IsOneOffer a.at (verdict_offer out a priority n own v)
one_by_verdict out a priority n own (verdict.Pass ipv e) = inr (_, refl, refl)
one_by_verdict out a priority n own verdict.Blocked = inl refl
one_by_verdict out a priority n own verdict.Oversize = inl refl
one_by_verdict out a priority n own verdict.GateClosed = inl refl
one_by_verdict out a priority n own verdict.ShutByRx = inl refl
one_by_verdict out a priority n own verdict.ShutByOctets = inl refl
one_by_verdict out a priority n own verdict.OctetsExceeded = inl refl
one_by_verdict out a priority n own verdict.Red = inl refl
one_by_verdict out a priority n own verdict.YellowDropped = inl refl

one_by_step : {A : Type 0} (p : Plan A) (out : PortPlan A) (a : Arrival) (es : List Event) (priority : ℕ) (s : FilterStep) → IsOneOffer a.at (step_offer p out a es priority s)
one_by_step p out a es priority (Unfiltered c) = inr (_, refl, refl)
one_by_step p out a es priority (Judged c n f v) = one_by_verdict out a priority n _ v
one_by_step p out a es priority (Commanded c n) = inl refl

pub one_by_way : {A : Type 0} (p : Plan A) (out : PortPlan A) (a : Arrival) (es : List Event) (w : Destination) → IsOneOffer a.at (destination_offer p out a es w)
one_by_way p out a es way.Malformed = inl refl
one_by_way p out a es way.Nowhere = inl refl
one_by_way p out a es (way.Forwarded set c) = by_bool (has_port set out.number) (λ k. rw k (one_by_step p out a es c.priority (frame_step p es c))) (λ k. rw k (inl refl))
