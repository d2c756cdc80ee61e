use Rattle.std.proofs.Common.{◌≡◌, ℕ, Bool, true, false, List, [], ◌∷◌, refl, ap, ◌∙◌, sym, subst}
use Rattle.std.specs.Prelude.{IfSome, IsTrue, nat_eq, nat_lt, if◌then◌else◌, Option, Some, None}
use Rattle.std.specs.Option.{option_map, is_some}
use Rattle.std.specs.Map.{lookup}
use Rattle.std.proofs.lemmas.Option.{same_Some}
use Rattle.std.proofs.lemmas.Bool.{eqb-true}
use Rattle.bridge_limits.proofs.Cases.{by_bool}
use Rattle.bridge_limits.proofs.Orders.{same_eq}
use Rattle.bridge_filter.specs.declared.FilterPlan.{FilterPlan}
use Rattle.bridge_filter.specs.declared.route.Route.{Route}
use Rattle.bridge_filter.specs.Verdicts.{FilterInput, frame_filter, lesser_filter, is_match}
use Rattle.bridge_filter.specs.Plans.{is_listed, are_numbers_distinct}

-- A number is listed exactly if looking it up succeeds.
pub is_there-lookup : {X : Type 0} (n : ℕ) (xs : List (ℕ × X)) → is_listed n xs ≡ is_some (lookup (nat_eq n) xs)
is_there-lookup n xs = refl

found_there : {X : Type 0} (n : ℕ) (xs : List (ℕ × X)) (y : X) → lookup (nat_eq n) xs ≡ Some y → is_listed n xs ≡ true
found_there n xs y h = is_there-lookup n xs ∙ ap is_some h

lesser_cases : (b : Bool) (f g x : ℕ × FilterPlan) → (if b then Some g else Some f) ≡ Some x → (f ≡ x → ⊥) → g ≡ x
lesser_cases true f g x h differ = same_Some g x h
lesser_cases false f g x h differ = absurd (differ (same_Some f x h))

head_apart : {X : Type 0} (x : ℕ × X) (xs : List (ℕ × X)) → are_numbers_distinct (x ∷ xs) ≡ true → (is_listed x.0 xs ≡ false) × (are_numbers_distinct xs ≡ true)
head_apart x xs h = by_bool (is_listed x.0 xs) (λ e. absurd (let z = rw e at h in cc)) (λ e. (e, rw e at h))

-- Holds if looking up the number of a member gives the member.
pub record IsFound (fs : List (ℕ × FilterPlan)) (x : ℕ × FilterPlan) : Type 0 where
  pub found : lookup (nat_eq x.0) fs ≡ Some x.1

found_first : (f x : ℕ × FilterPlan) (fs : List (ℕ × FilterPlan)) → nat_eq f.0 f.0 ≡ true → f ≡ x → IsFound (f ∷ fs) x
found_first f x fs same e = subst (λ (z : ℕ × FilterPlan). IsFound (f ∷ fs) z) e (record { found = rw same refl })

found_later : (f x : ℕ × FilterPlan) (fs : List (ℕ × FilterPlan)) → are_numbers_distinct (f ∷ fs) ≡ true → IsFound fs x → IsFound (f ∷ fs) x
found_later f x fs distinct h = by_bool (nat_eq x.0 f.0)
    (λ e.
    let same : x.0 ≡ f.0 = eqb-true x.0 f.0 e in
    let there : is_listed f.0 fs ≡ true = subst (λ (n : ℕ). is_listed n fs ≡ true) same (found_there x.0 fs x.1 h.found) in
    absurd (let apart = (head_apart f fs distinct).0 in cc))
    (λ e. record { found = rw e h.found })

found_lesser : (f x : ℕ × FilterPlan) (fs : List (ℕ × FilterPlan)) (o : Option (ℕ × FilterPlan)) → nat_eq f.0 f.0 ≡ true → are_numbers_distinct (f ∷ fs) ≡ true → ((y : ℕ × FilterPlan) → o ≡ Some y → IsFound fs y) → lesser_filter f o ≡ Some x → IsFound (f ∷ fs) x
found_lesser f x fs None same distinct ih h = found_first f x fs same (same_Some f x h)
found_lesser f x fs (Some g) same distinct ih h = by_bool (nat_lt g.0 f.0)
    (λ e. let k : Some g ≡ Some x = rw e at h in found_later f x fs distinct (ih x k))
    (λ e. let k : Some f ≡ Some x = rw e at h in found_first f x fs same (same_Some f x k))

-- Looking up the number of a frame's filter gives this filter.
pub flow_found : (fs : List (ℕ × FilterPlan)) (c : FilterInput) (x : ℕ × FilterPlan) → are_numbers_distinct fs ≡ true → frame_filter fs c ≡ Some x → IsFound fs x
flow_found [] c x distinct h = absurd (cc)
flow_found (f ∷ fs) c x distinct h =
    let rest = (head_apart f fs distinct).1 in
    let ih = λ (y : ℕ × FilterPlan) (k : frame_filter fs c ≡ Some y). flow_found fs c y rest k in
    by_bool (is_match f.1 c)
    (λ e. let k : lesser_filter f (frame_filter fs c) ≡ Some x = rw e at h in found_lesser f x fs (frame_filter fs c) (same_eq f.0) distinct ih k)
    (λ e. let k : frame_filter fs c ≡ Some x = rw e at h in found_later f x fs distinct (ih x k))

-- Holds if the frame's filter has the number `n`.
pub record IsFlow (fs : List (ℕ × FilterPlan)) (c : FilterInput) (n : ℕ) : Type 0 where
  pub plan : FilterPlan
  pub is : frame_filter fs c ≡ Some (n, plan)
  pub found : lookup (nat_eq n) fs ≡ Some plan

numbered_flow : (fs : List (ℕ × FilterPlan)) (c : FilterInput) (n : ℕ) (o : Option (ℕ × FilterPlan)) → are_numbers_distinct fs ≡ true → frame_filter fs c ≡ o → Some n ≡ option_map (λ (x : ℕ × FilterPlan). x.0) o → IsFlow fs c n
numbered_flow fs c n None distinct h k = absurd (cc)
numbered_flow fs c n (Some x) distinct h k =
    let e : x.0 ≡ n = sym (same_Some n x.0 k) in
    let f = flow_found fs c x distinct h in
    subst (λ (m : ℕ). IsFlow fs c m) e (record { plan = x.1; is = h; found = f.found })

pub flow_numbered : (fs : List (ℕ × FilterPlan)) (c : FilterInput) (n : ℕ) → are_numbers_distinct fs ≡ true → Some n ≡ option_map (λ (x : ℕ × FilterPlan). x.0) (frame_filter fs c) → IsFlow fs c n
flow_numbered fs c n distinct h = numbered_flow fs c n (frame_filter fs c) distinct refl h

no_number : (o : Option (ℕ × FilterPlan)) → None ≡ option_map (λ (x : ℕ × FilterPlan). x.0) o → o ≡ None
no_number None h = refl
no_number (Some x) h = absurd (cc)

pub flow_none : (fs : List (ℕ × FilterPlan)) (c : FilterInput) → None ≡ option_map (λ (x : ℕ × FilterPlan). x.0) (frame_filter fs c) → frame_filter fs c ≡ None
flow_none fs c h = no_number (frame_filter fs c) h

-- The number of a frame's filter is listed.
pub flow_there : (fs : List (ℕ × FilterPlan)) (c : FilterInput) (o : Option ℕ) → are_numbers_distinct fs ≡ true → o ≡ option_map (λ (x : ℕ × FilterPlan). x.0) (frame_filter fs c) → IfSome o (λ n. IsTrue (is_listed n fs))
flow_there fs c None distinct h = tt
flow_there fs c (Some n) distinct h = let f = flow_numbered fs c n distinct h in found_there n fs f.plan f.found

-- The number of a frame's route is listed.
pub found_there_too : (fs : List (ℕ × FilterPlan)) (c : FilterInput) (o : Option Route) → are_numbers_distinct fs ≡ true → option_map (λ (r : Route). r.number) o ≡ option_map (λ (x : ℕ × FilterPlan). x.0) (frame_filter fs c) → IfSome o (λ r. is_listed r.number fs ≡ true)
found_there_too fs c None distinct h = tt
found_there_too fs c (Some r) distinct h = flow_there fs c (Some r.number) distinct h
