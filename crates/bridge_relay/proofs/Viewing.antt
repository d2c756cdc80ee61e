-- The records of the filters, moved out in a loop.
use Rattle.std.proofs.Common.{◌≡◌, ℕ, zero, suc, Bool, true, false, ◌+◌, ◌<◌, ◌≤◌, List, [], ◌∷◌, ◌++◌, length, get_or, take, drop, arith, refl, ap, ◌∙◌, sym, subst}
use Rattle.std.specs.Prelude.{nat_eq}
use Rattle.std.specs.Map.{lookup}
use Rattle.std.specs.Option.{is_some}
use Rattle.std.proofs.Math.Numerals.{add-one}
use Rattle.std.proofs.Math.Seq.{drop-cons, take-suc}
use Rattle.std.proofs.lemmas.Bool.Decides.{nat_tests}
use Rattle.std.proofs.lemmas.List.{take_all}
use Rattle.std.proofs.lemmas.Bool.{eqb-true}
use Rattle.bridge_limits.specs.Members.{RelatesToEach, IsOrdered}
use Rattle.bridge_limits.proofs.Cases.{by_bool}
use Rattle.bridge_limits.proofs.Orders.{same_eq}
use Rattle.bridge_filter.specs.declared.FilterPlan.{FilterPlan}
use Rattle.bridge_filter.specs.Plans.{is_listed}
use Rattle.bridge_filter.specs.StandsFor as filter
use Rattle.bridge_semantics.specs.declared.outcome.View.{View}
use Rattle.bridge_relay.specs.Recorders.{RecorderState, update_number}
use Rattle.bridge_relay.specs.Records.{empty_recorder}
use Rattle.bridge_relay.specs.Finish.{IsFilterShown, AreFiltersShown}

abbrev pub IsBefore : {X : Type 0} → ℕ × X → ℕ × X → Type 0
IsBefore x y = x.0 < y.0

-- Holds if the first `i` filters have their records in `views`, and the other recorders are unchanged.
pub record IsViewing {A : Type 0} (police : filter.PoliceState A) (first now : List (ℕ × RecorderState)) (order : List (ℕ × FilterPlan)) (i : ℕ) (views : List (ℕ × View A)) : Type 0 where
  pub shown : AreFiltersShown police first (take i order) views
  pub rest : (n : ℕ) → is_listed n (drop i order) ≡ true → lookup (nat_eq n) now ≡ lookup (nat_eq n) first

true_false : (b : Bool) → b ≡ true → b ≡ false → ⊥
true_false b h k = let z : true ≡ false = sym h ∙ k in cc

not_same : (m n : ℕ) → m < n → nat_eq n m ≡ false
not_same m n l = grind (arith, nat_tests)

there_here : {X : Type 0} (n : ℕ) (x : ℕ × X) (xs : List (ℕ × X)) → nat_eq n x.0 ≡ true → is_listed n (x ∷ xs) ≡ true
there_here n x xs e = rw e refl

there_later : {X : Type 0} (n : ℕ) (x : ℕ × X) (xs : List (ℕ × X)) → is_listed n xs ≡ true → is_listed n (x ∷ xs) ≡ true
there_later n x xs h = by_bool (nat_eq n x.0) (λ e. rw e refl) (λ e. rw e h)

pub there_at : {X : Type 0} (xs : List (ℕ × X)) (i : ℕ) (x d : ℕ × X) → i < length xs → x ≡ get_or xs i d → is_listed x.0 xs ≡ true
there_at [] i x d l e = absurd (omega arith)
there_at (y ∷ ys) zero x d l e = there_here x.0 y ys (let z : x.0 ≡ y.0 = ap (λ w. w.0) e in grind (arith, nat_tests))
there_at (y ∷ ys) (suc i) x d l e = there_later x.0 y ys (there_at ys i x d (omega arith) e)

rising_drop : {X : Type 0} (R : X → X → Type 0) (i : ℕ) (xs : List X) → IsOrdered R xs → IsOrdered R (drop i xs)
rising_drop R zero xs h = h
rising_drop R (suc i) [] h = tt
rising_drop R (suc i) (x ∷ xs) h = rising_drop R i xs h.1

after_there : {X : Type 0} (x : ℕ × X) (n : ℕ) (xs : List (ℕ × X)) → RelatesToEach IsBefore x xs → is_listed n xs ≡ true → x.0 < n
after_there x n [] a h = absurd (cc)
after_there {X} x n (y ∷ ys) a h = by_bool (nat_eq n y.0)
    (λ e. let same : n ≡ y.0 = eqb-true n y.0 e in let low = a.0 in omega (arith, same, low))
    (λ e. let k : is_listed n ys ≡ true = rw e at h in after_there x n ys a.1 k)

change_other : {X : Type 0} (m n : ℕ) (f : X → X) (xs : List (ℕ × X)) → nat_eq n m ≡ false → lookup (nat_eq n) (update_number m f xs) ≡ lookup (nat_eq n) xs
change_other m n f [] h = refl
change_other {X} m n f (e ∷ xs) h = by_bool (nat_eq m e.0)
    (λ t.
    let same : m ≡ e.0 = eqb-true m e.0 t in
    let apart : nat_eq n e.0 ≡ false = subst (λ (k : ℕ). nat_eq n k ≡ false) same h in
    rw (t, apart) refl)
    (λ t. by_bool (nat_eq n e.0) (λ u. rw (t, u) refl) (λ u. rw (t, u) (change_other m n f xs h)))

shown_push : {A : Type 0} (police : filter.PoliceState A) (tables : List (ℕ × RecorderState)) (xs : List (ℕ × FilterPlan)) (ys : List (ℕ × View A)) (x : ℕ × FilterPlan) (v : View A) → AreFiltersShown police tables xs ys → IsFilterShown police tables x.0 x.1 v → AreFiltersShown police tables (xs ++ x ∷ []) (ys ++ (x.0, v) ∷ [])
shown_push police tables [] [] x v a s = (refl, s, tt)
shown_push police tables [] (y ∷ ys) x v a s = absurd a
shown_push police tables (z ∷ xs) [] x v a s = absurd a
shown_push police tables (z ∷ xs) (y ∷ ys) x v a s = (a.0, a.1, shown_push police tables xs ys x v a.2 s)

shown_by : {A : Type 0} (police : filter.PoliceState A) (first now : List (ℕ × RecorderState)) (n : ℕ) (f : FilterPlan) (v : View A) → lookup (nat_eq n) now ≡ lookup (nat_eq n) first → IsFilterShown police now n f v → IsFilterShown police first n f v
shown_by police first now n f v same s = record { protected = s.protected; counters = s.counters; flags = s.flags; buckets = s.buckets; told = λ t e. s.told t (same ∙ e) }

pub viewing_start : {A : Type 0} (police : filter.PoliceState A) (first : List (ℕ × RecorderState)) (order : List (ℕ × FilterPlan)) (views : List (ℕ × View A)) → views ≡ [] → IsViewing police first first order 0 views
viewing_start {A} police first order views none = record { shown = subst (λ (ys : List (ℕ × View A)). AreFiltersShown police first [] ys) (sym none) tt; rest = λ n h. refl }

pub viewing_next : {A : Type 0} (police : filter.PoliceState A) (first now next : List (ℕ × RecorderState)) (order : List (ℕ × FilterPlan)) (i : ℕ) (views more : List (ℕ × View A)) (x d : ℕ × FilterPlan) (v : View A) → IsOrdered IsBefore order → i < length order → x ≡ get_or order i d → IsViewing police first now order i views → IsFilterShown police now x.0 x.1 v → next ≡ update_number x.0 (λ _. empty_recorder) now → more ≡ views ++ (x.0, v) ∷ [] → IsViewing police first next order (i + 1) more
viewing_next {A} police first now next order i views more x d v rises low at w s is grown =
    let cut : drop i order ≡ x ∷ drop (suc i) order = drop-cons order i d low ∙ ap (λ (z : ℕ × FilterPlan). z ∷ drop (suc i) order) (sym at) in
    let taken : take (suc i) order ≡ take i order ++ x ∷ [] = take-suc order i d low ∙ ap (λ (z : ℕ × FilterPlan). take i order ++ z ∷ []) (sym at) in
    let here : is_listed x.0 (drop i order) ≡ true = subst (λ (z : List (ℕ × FilterPlan)). is_listed x.0 z ≡ true) (sym cut) (there_here x.0 x (drop (suc i) order) (same_eq x.0)) in
    let after : RelatesToEach IsBefore x (drop (suc i) order) = (subst (IsOrdered IsBefore) cut (rising_drop IsBefore i order rises)).0 in
    let all = shown_push police first (take i order) views x v w.shown (shown_by police first now x.0 x.1 v (w.rest x.0 here) s) in
    let shown : AreFiltersShown police first (take (suc i) order) more = subst (λ (z : List (ℕ × FilterPlan)). AreFiltersShown police first z more) (sym taken) (subst (AreFiltersShown police first (take i order ++ x ∷ [])) (sym grown) all) in
    let rest : (n : ℕ) → is_listed n (drop (suc i) order) ≡ true → lookup (nat_eq n) next ≡ lookup (nat_eq n) first = λ n h.
    ap (lookup (nat_eq n)) is ∙ (change_other x.0 n (λ _. empty_recorder) now (not_same x.0 n (after_there x n (drop (suc i) order) after h))
    ∙ w.rest n (subst (λ (z : List (ℕ × FilterPlan)). is_listed n z ≡ true) (sym cut) (there_later n x (drop (suc i) order) h))) in
    subst (λ (k : ℕ). IsViewing police first next order k more) (sym (add-one i)) (record { shown = shown; rest = rest })

-- The recorder of the next filter is unchanged.
pub table_next : {A : Type 0} (police : filter.PoliceState A) (first now : List (ℕ × RecorderState)) (order : List (ℕ × FilterPlan)) (i : ℕ) (views : List (ℕ × View A)) (x d : ℕ × FilterPlan) → i < length order → x ≡ get_or order i d → IsViewing police first now order i views → is_listed x.0 first ≡ true → is_listed x.0 now ≡ true
table_next {A} police first now order i views x d low at w h =
    let cut : drop i order ≡ x ∷ drop (suc i) order = drop-cons order i d low ∙ ap (λ (z : ℕ × FilterPlan). z ∷ drop (suc i) order) (sym at) in
    let here : is_listed x.0 (drop i order) ≡ true = subst (λ (z : List (ℕ × FilterPlan)). is_listed x.0 z ≡ true) (sym cut) (there_here x.0 x (drop (suc i) order) (same_eq x.0)) in
    ap is_some (w.rest x.0 here) ∙ h

-- All filters have their records.
pub viewing_end : {A : Type 0} (police : filter.PoliceState A) (first now : List (ℕ × RecorderState)) (order : List (ℕ × FilterPlan)) (i : ℕ) (views : List (ℕ × View A)) → length order ≤ i → IsViewing police first now order i views → AreFiltersShown police first order views
viewing_end police first now order i views l w = subst (λ (z : List (ℕ × FilterPlan)). AreFiltersShown police first z views) (take_all i order l) w.shown
