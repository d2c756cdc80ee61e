-- Numbers of a filter's frames. Proofs of higher crates use them.
use Rattle.std.proofs.Common.{◌≡◌, ◌+◌, ◌≤◌, ℕ, true, List, [], ◌∷◌, ap, ◌∙◌, sym, subst, arith, inl, inr, Option, Some, None, nat_eq}
use Rattle.std.proofs.lemmas.Option.{same_Some}
use Rattle.bridge_limits.specs.Members.{IsMember}
use Rattle.bridge_limits.proofs.Members.{in_either}
use Rattle.bridge_limits.proofs.Cases.{by_bool}
use Rattle.bridge_limits.proofs.Orders.{same_eq}
use Rattle.bridge_forward.specs.Ports.{has_port}
use Rattle.bridge_filter.specs.declared.FilterInput.{FilterInput}
use Rattle.bridge_filter.specs.declared.FilterPlan.{FilterPlan}
use Rattle.bridge_filter.specs.declared.Verdict.{Verdict}
use Rattle.bridge_filter.specs.declared.Verdict.TheVariants as verdict
use Rattle.bridge_filter.specs.Verdicts as verdicts
use Rattle.bridge_filter.specs.OwnEvents.{is_filter_number}
use Rattle.bridge_config.specs.declared.ports.PortPlan.{PortPlan}
use Rattle.bridge_config.specs.Model.{Plan}
use Rattle.bridge_semantics.specs.declared.destination.Destination.{Destination}
use Rattle.bridge_semantics.specs.declared.destination.Destination.TheVariants.{Malformed, Nowhere, Forwarded}
use Rattle.bridge_semantics.specs.Events.{Arrival, Event, Arrived, Cleared, frame_destination, destination_input, plan_police, police_steps, input_filter, arrival_filter, count_filter_frames}
use Rattle.bridge_semantics.specs.Offers.{Offer, verdict_offer, step_offer, destination_offer, arrival_offer, port_offers}

-- Holds if an offered copy has the next frame number of filter `n`, and the frame matches this filter.
pub record IsNumbered {A : Type 0} (p : Plan A) (n : ℕ) (o : Offer) (es : List Event) (f : Option (ℕ × FilterPlan)) : Type 0 where
  pub own : o.item.own ≡ count_filter_frames p n es + 1
  pub flow : is_filter_number n f ≡ true

by_verdict : {A : Type 0} (p : Plan A) (out : PortPlan A) (a : Arrival) (es : List Event) (priority m k n : ℕ) (v : Verdict) (o : Offer) → IsMember o (verdict_offer out a priority m k v) → o.item.flow ≡ Some n → (m ≡ n) × (o.item.own ≡ k)
by_verdict p out a es priority m k n (verdict.Pass ipv e) o (inl same) fl = (same_Some m n (sym (ap (λ z. z.item.flow) same) ∙ fl), ap (λ z. z.item.own) same)
by_verdict p out a es priority m k n (verdict.Pass ipv e) o (inr i) fl = absurd i
by_verdict p out a es priority m k n verdict.Blocked o i fl = absurd i
by_verdict p out a es priority m k n verdict.Oversize o i fl = absurd i
by_verdict p out a es priority m k n verdict.GateClosed o i fl = absurd i
by_verdict p out a es priority m k n verdict.ShutByRx o i fl = absurd i
by_verdict p out a es priority m k n verdict.ShutByOctets o i fl = absurd i
by_verdict p out a es priority m k n verdict.OctetsExceeded o i fl = absurd i
by_verdict p out a es priority m k n verdict.Red o i fl = absurd i
by_verdict p out a es priority m k n verdict.YellowDropped o i fl = absurd i

by_flow : {A : Type 0} (p : Plan A) (out : PortPlan A) (a : Arrival) (es : List Event) (priority n : ℕ) (c : FilterInput) (f : Option (ℕ × FilterPlan)) (o : Offer) → IsMember o (step_offer p out a es priority (verdicts.input_step (plan_police p) (police_steps p es) c f)) → o.item.flow ≡ Some n → IsNumbered p n o es f
by_flow p out a es priority n c None o (inl same) fl = let z : None ≡ Some n = sym (ap (λ z. z.item.flow) same) ∙ fl in absurd (cc)
by_flow p out a es priority n c None o (inr i) fl = absurd i
by_flow p out a es priority n c (Some x) o i fl =
    let (same, own) = by_verdict p out a es priority x.0 (count_filter_frames p x.0 es + 1) n (verdicts.frame_verdict (plan_police p) (police_steps p es) c x.0 x.1) o i fl in
    record { own = own ∙ ap (λ (m : ℕ). count_filter_frames p m es + 1) same; flow = subst (λ (m : ℕ). nat_eq x.0 m ≡ true) same (same_eq x.0) }

by_way : {A : Type 0} (p : Plan A) (out : PortPlan A) (a : Arrival) (es : List Event) (n : ℕ) (w : Destination) (o : Offer) → IsMember o (destination_offer p out a es w) → o.item.flow ≡ Some n → IsNumbered p n o es (input_filter p (destination_input w))
by_way p out a es n Malformed o i fl = absurd i
by_way p out a es n Nowhere o i fl = absurd i
by_way p out a es n (Forwarded set c) o i fl = by_bool (has_port set out.number)
    (λ k. let j : IsMember o (step_offer p out a es c.priority (verdicts.input_step (plan_police p) (police_steps p es) c (verdicts.frame_filter p.filters c))) = rw k at i in by_flow p out a es c.priority n c (verdicts.frame_filter p.filters c) o j fl)
    (λ k. let j : ⊥ = rw k at i in absurd j)

-- A frame's copies have the next number of its filter.
pub own_next : {A : Type 0} (p : Plan A) (out : PortPlan A) (a : Arrival) (es : List Event) (n : ℕ) (o : Offer) → IsMember o (arrival_offer p out a es) → o.item.flow ≡ Some n → IsNumbered p n o es (arrival_filter p a)
own_next p out a es n o i fl = by_way p out a es n (frame_destination p a) o i fl

-- A copy's frame number is at most the number of the filter's frames.
pub own_below : {A : Type 0} (p : Plan A) (out : PortPlan A) (n : ℕ) (es : List Event) (o : Offer) → IsMember o (port_offers p out es) → o.item.flow ≡ Some n → o.item.own ≤ count_filter_frames p n es
own_below p out n [] o i fl = absurd i
own_below p out n (Cleared clear m ∷ es) o i fl = own_below p out n es o i fl
own_below p out n (Arrived a ∷ es) o i fl = elim (in_either o (arrival_offer p out a es) (port_offers p out es) i) [
  | inl now ↦ let r = own_next p out a es n o now fl in rw r.flow (let x = r.own in omega (arith, x))
  | inr later ↦ let x = own_below p out n es o later fl in by_bool (is_filter_number n (arrival_filter p a)) (λ k. rw k (omega (arith, x))) (λ k. rw k (omega (arith, x)))
]
