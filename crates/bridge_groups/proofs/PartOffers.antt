-- The offers of one filter among the offers to a port.
use Rattle.std.proofs.Common.{◌≡◌, ◌+◌, ℕ, Bool, true, List, [], ◌∷◌, ◌++◌, refl, ap, ◌∙◌, sym, subst, inl, inr, Option, Some, None}
use Rattle.std.specs.Prelude.{nat_eq, if◌then◌else◌}
use Rattle.std.proofs.lemmas.Option.{same_Some}
use Rattle.std.proofs.lemmas.Bool.{eqb-true, false≢true}
use Rattle.bridge_limits.specs.Members.{IsMember}
use Rattle.bridge_limits.proofs.Cases.{by_bool}
use Rattle.bridge_limits.proofs.Orders.{same_eq}
use Rattle.bridge_forward.specs.Ports.{has_port}
use Rattle.bridge_filter.specs.declared.FilterInput.{FilterInput}
use Rattle.bridge_filter.specs.declared.FilterPlan.{FilterPlan}
use Rattle.bridge_filter.specs.declared.Verdict.{Verdict}
use Rattle.bridge_filter.specs.Verdicts as verdicts
use Rattle.bridge_filter.specs.Verdicts.{FilterStep, frame_filter, is_match}
use Rattle.bridge_filter.specs.OwnEvents.{is_own_command}
use Rattle.bridge_filter.proofs.Members.{one_number}
use Rattle.bridge_filter.proofs.Owned.{flow_listed, told_listed, verdict_own}
use Rattle.bridge_port.specs.Schedule.{Copy}
use Rattle.bridge_config.specs.declared.ports.PortPlan.{PortPlan}
use Rattle.bridge_config.specs.Model.{Plan}
use Rattle.bridge_config.specs.Rules.{IsPlan, find_port}
use Rattle.bridge_check.specs.Acceptable.{HasAcceptableGroups}
use Rattle.bridge_semantics.specs.declared.destination.Destination.{Destination}
use Rattle.bridge_semantics.specs.declared.destination.Destination.TheVariants.{Forwarded, Malformed, Nowhere}
use Rattle.bridge_semantics.specs.Events.{Arrival, Arrived, Cleared, Event, arrival_input, count_filter_frames, destination_input, filter_inputs, frame_destination, own_events, plan_police, police_steps}
use Rattle.bridge_semantics.specs.Groups.{IsGroupMember}
use Rattle.bridge_semantics.specs.Offers.{CarriedFrame, Offer, arrival_offer, class_offers, copy_offers, destination_offer, frame_step, port_offers, step_offer, verdict_offer}
use Rattle.bridge_semantics.proofs.GroupMembers.{has_flow}
use Rattle.bridge_semantics.proofs.Grouped as group_of
use Rattle.bridge_semantics.proofs.Offering.{none_offered, offered_by}
use Rattle.bridge_semantics.proofs.Steps.{count_own, steps_own}
use Rattle.bridge_groups.specs.ApartParts.{part_copies}
use Rattle.bridge_groups.specs.Curves.{has_filter_number}

-- True if the copy belongs to filter `n`.
abbrev pub is_own_item : ℕ → CarriedFrame → Bool
is_own_item n x = has_filter_number x.flow n

-- The offers of filter `n`.
abbrev pub part_offers : ℕ → List Offer → List Offer
part_offers n [] = []
part_offers n (o ∷ os) = if is_own_item n o.item then o ∷ part_offers n os else part_offers n os

pub own_number : (x : Option ℕ) (n : ℕ) → x ≡ Some n → has_filter_number x n ≡ true
own_number x n e = rw e (same_eq n)

pub number_of : (x : Option ℕ) (n : ℕ) → has_filter_number x n ≡ true → x ≡ Some n
number_of None n h = absurd (false≢true h)
number_of (Some k) n h = ap Some (eqb-true k n h)

part_join : (n : ℕ) (xs ys : List Offer) → part_offers n (xs ++ ys) ≡ part_offers n xs ++ part_offers n ys
part_join n [] ys = refl
part_join n (x ∷ xs) ys = by_bool (is_own_item n x.item) (λ k. rw (k, part_join n xs ys) refl) (λ k. rw k (part_join n xs ys))

part_all : (n : ℕ) (os : List Offer) → ((o : Offer) → IsMember o os → o.item.flow ≡ Some n) → part_offers n os ≡ os
part_all n [] own = refl
part_all n (o ∷ os) own = let mine : is_own_item n o.item ≡ true = own_number o.item.flow n (own o (inl refl)) in rw (mine, part_all n os (λ x i. own x (inr i))) refl

part_none : (n : ℕ) (os : List Offer) → ((o : Offer) → IsMember o os → o.item.flow ≡ Some n → ⊥) → part_offers n os ≡ []
part_none n [] other = refl
part_none n (o ∷ os) other = by_bool (is_own_item n o.item)
    (λ k. absurd (other o (inl refl) (number_of o.item.flow n k)))
    (λ k. rw k (part_none n os (λ x i. other x (inr i))))

-- A filter's offers to a class.
pub part_class : (n c : ℕ) (os : List Offer) → part_offers n (class_offers c os) ≡ class_offers c (part_offers n os)
part_class n c [] = refl
part_class n c (o ∷ os) = by_bool (nat_eq o.class c)
    (λ k. by_bool (is_own_item n o.item) (λ m. rw (k, m, k, part_class n c os) refl) (λ m. rw (k, m, part_class n c os) refl))
    (λ k. by_bool (is_own_item n o.item) (λ m. rw (k, m, k, part_class n c os) refl) (λ m. rw (k, m, part_class n c os) refl))

-- The offers of a filter's copies.
pub part_copied : (n : ℕ) (xs : List (Copy CarriedFrame)) → copy_offers (part_copies (is_own_item n) xs) ≡ part_offers n (copy_offers xs)
part_copied n [] = refl
part_copied n (x ∷ xs) = by_bool (is_own_item n x.item) (λ k. rw (k, part_copied n xs) refl) (λ k. rw k (part_copied n xs))

as_pair : (x : ℕ × FilterPlan) (n : ℕ) (f : FilterPlan) → x.0 ≡ n → f ≡ x.1 → x ≡ (n, f)
as_pair x n f number same = let h : (x.0, x.1) ≡ (n, f) = ap (λ (k : ℕ). (k, x.1)) number ∙ ap (λ (g : FilterPlan). (n, g)) (sym same) in h

module _ {A : Type 0} (p : Plan A) (group : ℕ) (plan : IsPlan p) (good : HasAcceptableGroups p) (n : ℕ) (f : FilterPlan) (member : IsGroupMember p group n f) where
  abbrev own : List Event → List Event
  own es = own_events p n f es

  verdict_same : (es : List Event) (c : FilterInput) → verdicts.frame_verdict (plan_police p) (police_steps p (own es)) c n f ≡ verdicts.frame_verdict (plan_police p) (police_steps p es) c n f
  verdict_same es c =
      let instances = group_of.apart p group plan good n f member in
      ap (λ (ss : List FilterStep). verdicts.frame_verdict (plan_police p) ss c n f) (steps_own p n f instances es)
      ∙ verdict_own (plan_police p) n f instances (police_steps p es) (told_listed (plan_police p) (filter_inputs p es)) c

  by_count : (out : PortPlan A) (a : Arrival) (priority k m : ℕ) (v u : Verdict) → k ≡ m → v ≡ u → verdict_offer out a priority n k v ≡ verdict_offer out a priority n m u
  by_count out a priority k m v u e d = ap (λ (z : ℕ). verdict_offer out a priority n z v) e ∙ ap (λ (z : Verdict). verdict_offer out a priority n m z) d

  -- A frame of the filter makes the same offer if only the filter's own events came before.
  step_same : (out : PortPlan A) (a : Arrival) (es : List Event) (priority : ℕ) (c : FilterInput) → frame_filter p.filters c ≡ Some (n, f) → step_offer p out a (own es) priority (frame_step p (own es) c) ≡ step_offer p out a es priority (frame_step p es c)
  step_same out a es priority c fl =
      let numbers : count_filter_frames p n (own es) + 1 ≡ count_filter_frames p n es + 1 = ap (λ (k : ℕ). k + 1) (count_own p n f es) in
      let one : step_offer p out a (own es) priority (frame_step p (own es) c) ≡ verdict_offer out a priority n (count_filter_frames p n (own es) + 1) (verdicts.frame_verdict (plan_police p) (police_steps p (own es)) c n f) = ap (λ (z : Option (ℕ × FilterPlan)). step_offer p out a (own es) priority (verdicts.input_step (plan_police p) (police_steps p (own es)) c z)) fl in
      let two : step_offer p out a es priority (frame_step p es c) ≡ verdict_offer out a priority n (count_filter_frames p n es + 1) (verdicts.frame_verdict (plan_police p) (police_steps p es) c n f) = ap (λ (z : Option (ℕ × FilterPlan)). step_offer p out a es priority (verdicts.input_step (plan_police p) (police_steps p es) c z)) fl in
      one ∙ (by_count out a priority _ _ _ _ numbers (verdict_same es c) ∙ sym two)

  same_on : (out : PortPlan A) (a : Arrival) (es : List Event) (w : Destination) (c : FilterInput) → destination_input w ≡ Some c → frame_filter p.filters c ≡ Some (n, f) → destination_offer p out a (own es) w ≡ destination_offer p out a es w
  same_on out a es Malformed c q fl = refl
  same_on out a es Nowhere c q fl = refl
  same_on out a es (Forwarded set made) c q fl =
      let flow_is : frame_filter p.filters made ≡ Some (n, f) = subst (λ (z : FilterInput). frame_filter p.filters z ≡ Some (n, f)) (sym (same_Some made c q)) fl in
      ap (λ (os : List Offer). if has_port set out.number then os else []) (step_same out a es made.priority made flow_is)

  -- Each frame with filter data has a filter.
  filtered : (c : FilterInput) → (g : ℕ × FilterPlan) × (frame_filter p.filters c ≡ Some g)
  filtered c =
      let (k, g, j, handle, priority, greatest) = (group_of.keeps p group plan good n f member).catches in
      let takes : is_match g c ≡ true = rw (handle, priority) refl in
      has_flow p.filters c (k, g) j takes

  module _ (out : PortPlan A) (there : find_port p.ports out.number ≡ Some out) where
    -- Holds if the offers of the own events are the filter's among all offers.
    abbrev AreOwnOffers : List Event → Type 0
    AreOwnOffers es = port_offers p out (own es) ≡ part_offers n (port_offers p out es)

    own_frame : (a : Arrival) (es : List Event) (c : FilterInput) → arrival_input p a ≡ Some c → frame_filter p.filters c ≡ Some (n, f) → AreOwnOffers es → AreOwnOffers (Arrived a ∷ es)
    own_frame a es c e fl before =
        let keep : own (Arrived a ∷ es) ≡ Arrived a ∷ own es = rw (e, fl, same_eq n) refl in
        let same : arrival_offer p out a (own es) ≡ arrival_offer p out a es = same_on out a es (frame_destination p a) c e fl in
        let all : part_offers n (arrival_offer p out a es) ≡ arrival_offer p out a es = part_all n (arrival_offer p out a es) (λ o i. (offered_by p out a es c (n, f) o plan there e fl i).flow) in
        ap (λ (ds : List Event). port_offers p out ds) keep
        ∙ (ap (λ (os : List Offer). os ++ port_offers p out (own es)) same
        ∙ (ap (λ (os : List Offer). arrival_offer p out a es ++ os) before
        ∙ (ap (λ (os : List Offer). os ++ part_offers n (port_offers p out es)) (sym all)
        ∙ sym (part_join n (arrival_offer p out a es) (port_offers p out es)))))

    other_frame : (a : Arrival) (es : List Event) → own (Arrived a ∷ es) ≡ own es → part_offers n (arrival_offer p out a es) ≡ [] → AreOwnOffers es → AreOwnOffers (Arrived a ∷ es)
    other_frame a es left none before =
        ap (λ (ds : List Event). port_offers p out ds) left
        ∙ (before
        ∙ (ap (λ (os : List Offer). os ++ part_offers n (port_offers p out es)) (sym none)
        ∙ sym (part_join n (arrival_offer p out a es) (port_offers p out es))))

    one_frame : (a : Arrival) (es : List Event) (m : Option FilterInput) → arrival_input p a ≡ m → AreOwnOffers es → AreOwnOffers (Arrived a ∷ es)
    one_frame a es None e before =
        let left : own (Arrived a ∷ es) ≡ own es = rw e refl in
        other_frame a es left (ap (part_offers n) (none_offered p out a es e)) before
    one_frame a es (Some c) e before =
        let (x, fl) = filtered c in
        by_bool (nat_eq x.0 n)
        (λ k.
        let number : x.0 ≡ n = eqb-true x.0 n k in
        let there_x : IsMember (n, x.1) p.filters = subst (λ (i : ℕ). IsMember (i, x.1) p.filters) number (flow_listed p.filters c x fl) in
        let same : f ≡ x.1 = one_number p.filters n f x.1 plan.filters.own member.listed there_x in
        let pair : x ≡ (n, f) = as_pair x n f number same in
        own_frame a es c e (fl ∙ ap Some pair) before)
        (λ k.
        let left : own (Arrived a ∷ es) ≡ own es = rw (e, fl, k) refl in
        let none : part_offers n (arrival_offer p out a es) ≡ [] = part_none n (arrival_offer p out a es) (λ o i flow.
        let t = offered_by p out a es c x o plan there e fl i in
        let number : x.0 ≡ n = same_Some x.0 n (sym t.flow ∙ flow) in
        let yes : nat_eq x.0 n ≡ true = subst (λ (i : ℕ). nat_eq x.0 i ≡ true) number (same_eq x.0) in
        false≢true (sym k ∙ yes)) in
        other_frame a es left none before)

    -- The offers of the filter's own events are its offers among those of all events.
    pub own_offers : (es : List Event) → AreOwnOffers es
    own_offers [] = refl
    own_offers (Arrived a ∷ es) = one_frame a es (arrival_input p a) refl (own_offers es)
    own_offers (Cleared clear m ∷ es) = by_bool (is_own_command n f clear m) (λ k. rw k (own_offers es)) (λ k. rw k (own_offers es))
