-- The arrival time of a filter's frame whose copy was offered.
use Rattle.std.proofs.Common.{◌≡◌, ◌+◌, ◌-◌, ℕ, zero, suc, List, [], ◌∷◌, ◌++◌, Some, length, refl, sym, ap, ◌∙◌, inl, inr, append-nil, arith}
use Rattle.std.specs.Prelude.{slice_get}
use Rattle.std.proofs.lemmas.List.{length-append}
use Rattle.bridge_limits.specs.Members.{IsMember}
use Rattle.bridge_limits.proofs.Members.{in_either}
use Rattle.bridge_limits.proofs.Cases.{by_bool}
use Rattle.bridge_filter.specs.OwnEvents.{is_filter_number}
use Rattle.bridge_forward.specs.Ports.{has_port}
use Rattle.bridge_config.specs.declared.ports.PortPlan.{PortPlan}
use Rattle.bridge_config.specs.Model.{Plan}
use Rattle.bridge_semantics.specs.declared.outcome.Origin.{Origin}
use Rattle.bridge_semantics.specs.Events.{Arrived, Cleared, Event, count_filter_frames, arrival_filter, arrival_origin, filter_origins, frame_destination}
use Rattle.bridge_semantics.specs.Offers.{Offer, arrival_offer, port_offers}
use Rattle.bridge_semantics.proofs.Numbers.{own_next}
use Rattle.net_model.proofs.Once.{moment_on}

-- THE TIME OF AN OFFER

-- THE FRAME OF AN OFFER

-- A filter has as many origins as frames.
many_origins : {A : Type 0} (p : Plan A) (n : ℕ) (es : List Event) → length (filter_origins p n es) ≡ count_filter_frames p n es
many_origins p n [] = refl
many_origins p n (Cleared clear m ∷ es) = many_origins p n es
many_origins p n (Arrived a ∷ es) =
    let before = many_origins p n es in
    by_bool (is_filter_number n (arrival_filter p a))
    (λ k. rw k (let more : length (filter_origins p n es ++ arrival_origin a ∷ []) ≡ length (filter_origins p n es) + 1 = length-append (filter_origins p n es) (arrival_origin a ∷ []) in omega (arith, more, before)))
    (λ k. rw k (let same : length (filter_origins p n es ++ []) ≡ length (filter_origins p n es) = ap length (append-nil (filter_origins p n es)) in omega (arith, same, before)))

at_end : {X : Type 0} (xs : List X) (y : X) → slice_get (xs ++ y ∷ []) (length xs) ≡ Some y
at_end [] y = refl
at_end (x ∷ xs) y = at_end xs y

still_there : {X : Type 0} (xs ys : List X) (k : ℕ) (x : X) → slice_get xs k ≡ Some x → slice_get (xs ++ ys) k ≡ Some x
still_there [] ys k x e = absurd (cc)
still_there (z ∷ xs) ys zero x e = e
still_there (z ∷ xs) ys (suc k) x e = still_there xs ys k x e

-- Holds if the frame of an offer arrived at the time of the offer.
pub record CameAs {A : Type 0} (p : Plan A) (n : ℕ) (es : List Event) (o : Offer) : Type 0 where
  pub origin : Origin
  pub there : slice_get (filter_origins p n es) (o.item.own - 1) ≡ Some origin
  pub moment : origin.at ≡ o.at

pub came_as : {A : Type 0} (p : Plan A) (out : PortPlan A) (n : ℕ) (es : List Event) (o : Offer) → IsMember o (port_offers p out es) → o.item.flow ≡ Some n → CameAs p n es o
came_as p out n [] o i flow = absurd i
came_as p out n (Cleared clear m ∷ es) o i flow = let was = came_as p out n es o i flow in record { origin = was.origin; there = was.there; moment = was.moment }
came_as p out n (Arrived a ∷ es) o i flow = elim (in_either o (arrival_offer p out a es) (port_offers p out es) i) [
  | inl now ↦
      let next = own_next p out a es n o now flow in
      let own = next.own in
      let many = many_origins p n es in
      let place : o.item.own - 1 ≡ length (filter_origins p n es) = omega (arith, own, many) in
      record {
        origin = arrival_origin a;
        there = rw next.flow (ap (slice_get (filter_origins p n es ++ arrival_origin a ∷ [])) place ∙ at_end (filter_origins p n es) (arrival_origin a));
        moment = sym (moment_on p out a es (frame_destination p a) o now);
      }
  | inr before ↦
      let was = came_as p out n es o before flow in
      record {
        origin = was.origin;
        there = still_there (filter_origins p n es) _ (o.item.own - 1) was.origin was.there;
        moment = was.moment;
      }
]
