-- Frames that a filter accepts.
use Rattle.std.proofs.Common.{◌≡◌, ℕ, Bool, true, false, ◌&&◌, cond, List, [], ◌∷◌, Option, Some, None, nat_eq, refl, sym, ap, ◌∙◌, subst, inl, inr, ◌⊎◌}
use Rattle.std.specs.Prelude.{nat_lt}
use Rattle.std.proofs.lemmas.Bool.{and_parts, eqb-true, false≢true}
use Rattle.std.proofs.lemmas.Option.{same_Some}
use Rattle.bridge_filter.specs.declared.FilterPlan.{FilterPlan}
use Rattle.bridge_filter.specs.Verdicts.{FilterInput, frame_filter, lesser_filter, is_match, is_handle_match, is_priority_match}

lesser_is : (f x : ℕ × FilterPlan) (b : Bool) (g : ℕ × FilterPlan) → cond b (Some g) (Some f) ≡ Some x → (f ≡ x) ⊎ (g ≡ x)
lesser_is f x true g h = inr (same_Some _ _ h)
lesser_is f x false g h = inl (same_Some _ _ h)

lesser_of : (f x : ℕ × FilterPlan) (o : Option (ℕ × FilterPlan)) → lesser_filter f o ≡ Some x → (f ≡ x) ⊎ (o ≡ Some x)
lesser_of f x None h = inl (same_Some _ _ h)
lesser_of f x (Some g) h = elim (lesser_is f x (nat_lt g.0 f.0) g h) [ inl e ↦ inl e | inr e ↦ inr (ap Some e) ]

matches_by : (b : Bool) (f x : ℕ × FilterPlan) (fs : List (ℕ × FilterPlan)) (c : FilterInput)
    → is_match f.1 c ≡ b
    → cond b (lesser_filter f (frame_filter fs c)) (frame_filter fs c) ≡ Some x
    → (frame_filter fs c ≡ Some x → is_match x.1 c ≡ true)
    → is_match x.1 c ≡ true
matches_by true f x fs c e h more = elim (lesser_of f x (frame_filter fs c) h) [ inl same ↦ subst (λ (z : ℕ × FilterPlan). is_match z.1 c ≡ true) same e | inr k ↦ more k ]
matches_by false f x fs c e h more = more h

-- A frame matches its filter.
pub flow_matches : (fs : List (ℕ × FilterPlan)) (c : FilterInput) (x : ℕ × FilterPlan) → frame_filter fs c ≡ Some x → is_match x.1 c ≡ true
flow_matches [] c x h = absurd (cc)
flow_matches (f ∷ fs) c x h = matches_by (is_match f.1 c) f x fs c refl h (flow_matches fs c x)

-- A filter with a handle accepts only frames with this handle.
pub taken_handle : (h : ℕ) (o : Option ℕ) → is_handle_match (Some h) o ≡ true → o ≡ Some h
taken_handle h None k = absurd (false≢true k)
taken_handle h (Some m) k = ap Some (sym (eqb-true h m k))

-- A frame has the handle of its filter, if the filter has one.
pub flow_handle : (fs : List (ℕ × FilterPlan)) (c : FilterInput) (x : ℕ × FilterPlan) (h : ℕ) → frame_filter fs c ≡ Some x → x.1.handle ≡ Some h → c.handle ≡ Some h
flow_handle fs c x h flows asks =
    let takes : is_handle_match x.1.handle c.handle ≡ true = (and_parts (is_handle_match x.1.handle c.handle) (is_priority_match x.1.priority c.priority) (flow_matches fs c x flows)).0 in
    taken_handle h c.handle (rw asks at takes)

-- A frame has the priority of its filter, if the filter has one.
pub flow_priority : (fs : List (ℕ × FilterPlan)) (c : FilterInput) (x : ℕ × FilterPlan) (k : ℕ) → frame_filter fs c ≡ Some x → x.1.priority ≡ Some k → c.priority ≡ k
flow_priority fs c x k flows asks =
    let takes : is_priority_match x.1.priority c.priority ≡ true = (and_parts (is_handle_match x.1.handle c.handle) (is_priority_match x.1.priority c.priority) (flow_matches fs c x flows)).1 in
    let same : nat_eq k c.priority ≡ true = rw asks at takes in
    sym (eqb-true k c.priority same)
