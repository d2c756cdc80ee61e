-- Members of a group, and its own events.
use Rattle.std.proofs.Common.{◌≡◌, ℕ, Bool, true, false, ◌&&◌, List, [], ◌∷◌, refl, ap, subst, inl, inr, Option, Some, None}
use Rattle.std.specs.Prelude.{nat_eq, nat_lt}
use Rattle.std.specs.List.{list_any}
use Rattle.std.proofs.lemmas.Bool.{and_parts, eqb-true, or_cases, false≢true}
use Rattle.bridge_limits.specs.Members.{IsMember}
use Rattle.bridge_limits.proofs.Cases.{by_bool}
use Rattle.bridge_limits.proofs.Orders.{same_eq}
use Rattle.bridge_filter.specs.declared.FilterInput.{FilterInput}
use Rattle.bridge_filter.specs.declared.FilterPlan.{FilterPlan}
use Rattle.bridge_filter.specs.Verdicts.{frame_filter, is_match, lesser_filter}
use Rattle.bridge_filter.proofs.Owned.{differs}
use Rattle.bridge_port.specs.Schedule.{Copy}
use Rattle.bridge_port.specs.Solo.{class_copies}
use Rattle.bridge_config.specs.Model.{Plan}
use Rattle.bridge_check.specs.Faults.{is_in_group}
use Rattle.bridge_semantics.specs.Events.{Event, is_own_event}
use Rattle.bridge_semantics.specs.Offers.{CarriedFrame, Offer, class_offers, copy_offers}
use Rattle.bridge_semantics.specs.Groups.{IsGroupMember, is_group_event}
use Rattle.bridge_semantics.proofs.Headline.{picked}

-- If a filter matches a frame, the frame has a filter.
lesser_some : (f : ℕ × FilterPlan) (o : Option (ℕ × FilterPlan)) → (g : ℕ × FilterPlan) × (lesser_filter f o ≡ Some g)
lesser_some f None = (f, refl)
lesser_some f (Some g) = by_bool (nat_lt g.0 f.0) (λ e. (g, rw e refl)) (λ e. (f, rw e refl))

pub has_flow : (fs : List (ℕ × FilterPlan)) (c : FilterInput) (x : ℕ × FilterPlan) → IsMember x fs → is_match x.1 c ≡ true → (g : ℕ × FilterPlan) × (frame_filter fs c ≡ Some g)
has_flow [] c x i m = absurd i
has_flow (f ∷ fs) c x (inl e) m =
    let own : is_match f.1 c ≡ true = subst (λ (z : ℕ × FilterPlan). is_match z.1 c ≡ true) e m in
    let (g, is) = lesser_some f (frame_filter fs c) in
    (g, rw own is)
has_flow (f ∷ fs) c x (inr i) m = by_bool (is_match f.1 c)
    (λ own. let (g, is) = lesser_some f (frame_filter fs c) in (g, rw own is))
    (λ other. let (g, is) = has_flow fs c x i m in (g, rw other is))

pub none_in_class : (c : ℕ) (xs : List Offer) → ((o : Offer) → IsMember o xs → o.class ≡ c → ⊥) → class_offers c xs ≡ []
none_in_class c [] h = refl
none_in_class c (x ∷ xs) h = rw (differs x.class c (h x (inl refl))) (none_in_class c xs (λ o i e. h o (inr i) e))

pub offered_only : (c : ℕ) (xs : List (Copy CarriedFrame)) → copy_offers (class_copies c xs) ≡ class_offers c (copy_offers xs)
offered_only c [] = refl
offered_only c (x ∷ xs) = by_bool (nat_eq x.class c) (λ k. rw (k, offered_only c xs) refl) (λ k. rw k (offered_only c xs))

pub picked_empty : (os : List Offer) → picked os [] ≡ []
picked_empty [] = refl
picked_empty (o ∷ os) = refl

-- MEMBERS

-- A filter whose group number is equal to the group's is in the group.
pub grouped_as : (group : ℕ) (own : Option ℕ) → is_in_group group own ≡ true → own ≡ Some group
grouped_as group None h = absurd (false≢true h)
grouped_as group (Some k) h = ap Some (eqb-true k group h)

-- If an item passes a test, some item of the list passes it.
passes_any : {X : Type 0} (t : X → Bool) (xs : List X) (x : X) → IsMember x xs → t x ≡ true → list_any t xs ≡ true
passes_any t [] x i h = absurd i
passes_any t (y ∷ ys) x (inl e) h = let own : t y ≡ true = subst (λ z. t z ≡ true) e h in rw own refl
passes_any t (y ∷ ys) x (inr i) h = by_bool (t y) (λ k. rw k refl) (λ k. rw k (passes_any t ys x i h))

any_passes : {X : Type 0} (t : X → Bool) (xs : List X) → list_any t xs ≡ true → (x : X) × IsMember x xs × (t x ≡ true)
any_passes t [] h = absurd (false≢true h)
any_passes t (y ∷ ys) h = elim (or_cases (t y) (list_any t ys) h) [
  | inl k ↦ (y, inl refl, k)
  | inr k ↦ let (x, i, own) = any_passes t ys k in (x, inr i, own)
]

abbrev is_member_event : {A : Type 0} → Plan A → ℕ → Event → ℕ × FilterPlan → Bool
is_member_event p group e g = is_in_group group g.1.group && is_own_event p g.0 g.1 e

-- An own event of the group is an own event of one of its filters.
pub owner : {A : Type 0} (p : Plan A) (group : ℕ) (e : Event) → is_group_event p group e ≡ true → (n : ℕ) × (f : FilterPlan) × IsGroupMember p group n f × (is_own_event p n f e ≡ true)
owner p group e h =
    let (x, i, passes) = any_passes (is_member_event p group e) p.filters h in
    let (grouped, own) = and_parts (is_in_group group x.1.group) (is_own_event p x.0 x.1 e) passes in
    (x.0, x.1, record { listed = i; grouped = grouped_as group x.1.group grouped }, own)

-- An own event of a filter of the group is an own event of the group.
pub owned : {A : Type 0} (p : Plan A) (group : ℕ) (n : ℕ) (f : FilterPlan) (e : Event) → IsGroupMember p group n f → is_own_event p n f e ≡ true → is_group_event p group e ≡ true
owned p group n f e i h =
    let grouped : is_in_group group f.group ≡ true = rw i.grouped (same_eq group) in
    passes_any (is_member_event p group e) p.filters (n, f) i.listed (rw (grouped, h) refl)
