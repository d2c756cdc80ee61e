-- The streams of inputs have one merged list.
use Rattle.std.proofs.Common.{◌≡◌, ℕ, true, false, List, [], ◌∷◌, arith, refl, ap, sym, ◌∙◌, subst, ◌⊎◌, inl, inr}
use Rattle.std.proofs.lemmas.Bool.{eqb-true, eqb-false}
use Rattle.std.specs.Prelude.{nat_eq, if◌then◌else◌}
use Rattle.bridge_limits.specs.Members.{IsMember}
use Rattle.bridge_filter.specs.declared.FilterPlan.{FilterPlan}
use Rattle.bridge_config.specs.Model.{Plan}
use Rattle.bridge_semantics.specs.Events.{Event, Arrived, Cleared, is_own_event, own_events}
use Rattle.bridge_limits.specs.Members.{RelatesToEach, IsOrdered}
use Rattle.bridge_limits.proofs.Cases.{by_bool}
use Rattle.bridge_limits.proofs.Orders.{same_eq}
use Rattle.bridge_semantics.specs.Groups.{group_events, group_inputs, is_group_event}
use Rattle.bridge_semantics.specs.Merge.{Input, FollowsInput, inputs_by_rank, IsMerged, input_events, own_inputs}
use Rattle.bridge_semantics.proofs.Views.{after_all, cons_is}

pub in_at : (q : ℕ) (a : Input) (xs : List Input) → IsMember a (inputs_by_rank q xs) → IsMember a xs
in_at q a [] i = absurd i
in_at q a (x ∷ xs) i = by_bool (nat_eq x.rank q)
    (λ k. let j : (a ≡ x) ⊎ IsMember a (inputs_by_rank q xs) = rw k at i in elim j [ inl e ↦ inl e | inr l ↦ inr (in_at q a xs l) ])
    (λ k. let j : IsMember a (inputs_by_rank q xs) = rw k at i in inr (in_at q a xs j))

both_orders : (a b : Input) → FollowsInput a b → FollowsInput b a → a.rank ≡ b.rank
both_orders a b (inl l) (inl m) = absurd (omega (arith, l, m))
both_orders a b (inl l) (inr m) = absurd (let e = m.0 in omega (arith, l, e))
both_orders a b (inr l) (inl m) = absurd (let e = l.0 in omega (arith, m, e))
both_orders a b (inr l) (inr m) = let x = l.1 in let y = m.1 in omega (arith, x, y)

later_there : (a b : Input) (xs bs : List Input) → (a.rank ≡ b.rank → ⊥) → IsOrdered FollowsInput (b ∷ bs) → inputs_by_rank a.rank (a ∷ xs) ≡ inputs_by_rank a.rank (b ∷ bs) → FollowsInput b a
later_there a b xs bs n r e =
    let k : nat_eq b.rank a.rank ≡ false = by_bool (nat_eq b.rank a.rank) (λ y. absurd (n (sym (eqb-true b.rank a.rank y)))) (λ y. y) in
    let z : a ∷ inputs_by_rank a.rank xs ≡ inputs_by_rank a.rank bs = rw (same_eq a.rank, k) at e in
    after_all FollowsInput b a bs r.0 (in_at a.rank a bs (subst (IsMember a) z (inl refl)))

pub one_list : (xs ys : List Input) → IsOrdered FollowsInput xs → IsOrdered FollowsInput ys → ((q : ℕ) → inputs_by_rank q xs ≡ inputs_by_rank q ys) → xs ≡ ys
one_list [] [] r s h = refl
one_list [] (b ∷ bs) r s h = let z : [] ≡ b ∷ inputs_by_rank b.rank bs = rw (same_eq b.rank) at (h b.rank) in absurd (cc)
one_list (a ∷ xs) [] r s h = let z : a ∷ inputs_by_rank a.rank xs ≡ [] = rw (same_eq a.rank) at (h a.rank) in absurd (cc)
one_list (a ∷ xs) (b ∷ bs) r s h = by_bool (nat_eq a.rank b.rank)
    (λ k.
    let port : a.rank ≡ b.rank = eqb-true a.rank b.rank k in
    let kb : nat_eq b.rank a.rank ≡ true = subst (λ (n : ℕ). nat_eq b.rank n ≡ true) (sym port) (same_eq b.rank) in
    let z : a ∷ inputs_by_rank a.rank xs ≡ b ∷ inputs_by_rank a.rank bs = rw (same_eq a.rank, kb) at (h a.rank) in
    let w = cons_is a b (inputs_by_rank a.rank xs) (inputs_by_rank a.rank bs) z in
    let rest : xs ≡ bs = one_list xs bs r.1 s.1 (λ q. by_bool (nat_eq a.rank q)
    (λ y. let at : a.rank ≡ q = eqb-true a.rank q y in subst (λ (n : ℕ). inputs_by_rank n xs ≡ inputs_by_rank n bs) at w.1)
    (λ y. let yb : nat_eq b.rank q ≡ false = subst (λ (n : ℕ). nat_eq n q ≡ false) port y in let v : inputs_by_rank q xs ≡ inputs_by_rank q bs = rw (y, yb) at (h q) in v)) in
    rw (w.0, rest) refl)
    (λ k.
    let n : a.rank ≡ b.rank → ⊥ = eqb-false a.rank b.rank k in
    let one = later_there a b xs bs n s (h a.rank) in
    let two = later_there b a bs xs (λ e. n (sym e)) r (sym (h b.rank)) in
    absurd (n (both_orders a b two one)))

pub one_merged : (captures : ℕ → List Input) (xs ys : List Input) → IsMerged captures xs → IsMerged captures ys → xs ≡ ys
one_merged captures xs ys a b = one_list xs ys a.in_order b.in_order (λ q. a.each q ∙ sym (b.each q))

-- THE FRAMES OF A FILTER

after_own : {A : Type 0} (p : Plan A) (n : ℕ) (f : FilterPlan) (R : Input → Input → Type 0) (a : Input) (xs : List Input) → RelatesToEach R a xs → RelatesToEach R a (own_inputs p n f xs)
after_own p n f R a [] h = tt
after_own p n f R a (x ∷ xs) h = by_bool (is_own_event p n f x.event) (λ k. rw k (h.0, after_own p n f R a xs h.1)) (λ k. rw k (after_own p n f R a xs h.1))

pub rising_own : {A : Type 0} (p : Plan A) (n : ℕ) (f : FilterPlan) (R : Input → Input → Type 0) (xs : List Input) → IsOrdered R xs → IsOrdered R (own_inputs p n f xs)
rising_own p n f R [] h = tt
rising_own p n f R (x ∷ xs) h = by_bool (is_own_event p n f x.event) (λ k. rw k (after_own p n f R x xs h.0, rising_own p n f R xs h.1)) (λ k. rw k (rising_own p n f R xs h.1))

pub own_of_rank : {A : Type 0} (p : Plan A) (n : ℕ) (f : FilterPlan) (q : ℕ) (xs : List Input) → inputs_by_rank q (own_inputs p n f xs) ≡ own_inputs p n f (inputs_by_rank q xs)
own_of_rank p n f q [] = refl
own_of_rank p n f q (x ∷ xs) = by_bool (is_own_event p n f x.event)
    (λ k. by_bool (nat_eq x.rank q) (λ j. rw (k, j, k, own_of_rank p n f q xs) refl) (λ j. rw (k, j) (own_of_rank p n f q xs)))
    (λ k. by_bool (nat_eq x.rank q) (λ j. rw (k, j, k) (own_of_rank p n f q xs)) (λ j. rw (k, j) (own_of_rank p n f q xs)))

-- The own events of a list, one event more.
own_cons : {A : Type 0} (p : Plan A) (n : ℕ) (f : FilterPlan) (e : Event) (es : List Event) → own_events p n f (e ∷ es) ≡ (if is_own_event p n f e then e ∷ own_events p n f es else own_events p n f es)
own_cons p n f (Arrived a) es = refl
own_cons p n f (Cleared c m) es = refl

pub events_own : {A : Type 0} (p : Plan A) (n : ℕ) (f : FilterPlan) (xs : List Input) → own_events p n f (input_events xs) ≡ input_events (own_inputs p n f xs)
events_own p n f [] = refl
events_own p n f (x ∷ xs) = own_cons p n f x.event (input_events xs) ∙ by_bool (is_own_event p n f x.event) (λ k. rw (k, events_own p n f xs) refl) (λ k. rw k (events_own p n f xs))

-- Equal own inputs of each port give equal own events.
pub own_ports : {A : Type 0} (p : Plan A) (n : ℕ) (f : FilterPlan) (captures others : ℕ → List Input) (xs ys : List Input) → IsMerged captures xs → IsMerged others ys → ((q : ℕ) → own_inputs p n f (captures q) ≡ own_inputs p n f (others q)) → own_events p n f (input_events xs) ≡ own_events p n f (input_events ys)
own_ports p n f captures others xs ys a b same =
    let one : own_inputs p n f xs ≡ own_inputs p n f ys = one_list (own_inputs p n f xs) (own_inputs p n f ys) (rising_own p n f FollowsInput xs a.in_order) (rising_own p n f FollowsInput ys b.in_order)
    (λ q. own_of_rank p n f q xs ∙ (ap (own_inputs p n f) (a.each q) ∙ (same q ∙ sym (own_of_rank p n f q ys ∙ ap (own_inputs p n f) (b.each q))))) in
    events_own p n f xs ∙ (ap input_events one ∙ sym (events_own p n f ys))

-- THE FRAMES OF A GROUP

after_group : {A : Type 0} (p : Plan A) (group : ℕ) (R : Input → Input → Type 0) (a : Input) (xs : List Input) → RelatesToEach R a xs → RelatesToEach R a (group_inputs p group xs)
after_group p group R a [] h = tt
after_group p group R a (x ∷ xs) h = by_bool (is_group_event p group x.event) (λ k. rw k (h.0, after_group p group R a xs h.1)) (λ k. rw k (after_group p group R a xs h.1))

rising_group : {A : Type 0} (p : Plan A) (group : ℕ) (R : Input → Input → Type 0) (xs : List Input) → IsOrdered R xs → IsOrdered R (group_inputs p group xs)
rising_group p group R [] h = tt
rising_group p group R (x ∷ xs) h = by_bool (is_group_event p group x.event) (λ k. rw k (after_group p group R x xs h.0, rising_group p group R xs h.1)) (λ k. rw k (rising_group p group R xs h.1))

group_of_rank : {A : Type 0} (p : Plan A) (group : ℕ) (q : ℕ) (xs : List Input) → inputs_by_rank q (group_inputs p group xs) ≡ group_inputs p group (inputs_by_rank q xs)
group_of_rank p group q [] = refl
group_of_rank p group q (x ∷ xs) = by_bool (is_group_event p group x.event)
    (λ k. by_bool (nat_eq x.rank q) (λ j. rw (k, j, k, group_of_rank p group q xs) refl) (λ j. rw (k, j) (group_of_rank p group q xs)))
    (λ k. by_bool (nat_eq x.rank q) (λ j. rw (k, j, k) (group_of_rank p group q xs)) (λ j. rw (k, j) (group_of_rank p group q xs)))

events_of_group : {A : Type 0} (p : Plan A) (group : ℕ) (xs : List Input) → group_events p group (input_events xs) ≡ input_events (group_inputs p group xs)
events_of_group p group [] = refl
events_of_group p group (x ∷ xs) = by_bool (is_group_event p group x.event) (λ k. rw (k, events_of_group p group xs) refl) (λ k. rw k (events_of_group p group xs))

-- Equal inputs of the group at each port give equal own events of the group.
pub group_ports : {A : Type 0} (p : Plan A) (group : ℕ) (captures others : ℕ → List Input) (xs ys : List Input) → IsMerged captures xs → IsMerged others ys → ((q : ℕ) → group_inputs p group (captures q) ≡ group_inputs p group (others q)) → group_events p group (input_events xs) ≡ group_events p group (input_events ys)
group_ports p group captures others xs ys a b same =
    let one : group_inputs p group xs ≡ group_inputs p group ys = one_list (group_inputs p group xs) (group_inputs p group ys) (rising_group p group FollowsInput xs a.in_order) (rising_group p group FollowsInput ys b.in_order)
    (λ q. group_of_rank p group q xs ∙ (ap (group_inputs p group) (a.each q) ∙ (same q ∙ sym (group_of_rank p group q ys ∙ ap (group_inputs p group) (b.each q))))) in
    events_of_group p group xs ∙ (ap input_events one ∙ sym (events_of_group p group ys))
