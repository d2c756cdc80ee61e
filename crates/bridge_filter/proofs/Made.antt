use Rattle.std.proofs.Common.{◌≡◌, ℕ, Bool, true, false, List, [], ◌∷◌, ◌++◌, ◌+◌, ◌<◌, arith, refl, ap, ◌∙◌, sym, subst, length, take, drop, get_or, drop-cons, add-one}
use Rattle.std.proofs.lemmas.List.{take_more, map-append, take-append-drop, append_assoc, append-nil}
use Rattle.std.specs.Prelude.{nat_eq, if◌then◌else◌, not, ◌&&◌, Option, Some, None}
use Rattle.std.specs.Option.{option_map}
use Rattle.std.specs.Map.{lookup}
use Rattle.std.specs.List.{list_all}
use Rattle.std.proofs.lemmas.Bool.{and_parts, eqb-true}
use Rattle.bridge_limits.proofs.Cases.{by_bool}
use Rattle.bridge_limits.proofs.Orders.{swapped, same_eq}
use Rattle.bridge_filter.specs.declared.FilterPlan.{FilterPlan}
use Rattle.bridge_filter.specs.Plans.{is_listed, are_numbers_distinct}
use Rattle.bridge_filter.specs.Routes.{lesser_number, least_passing}
use Rattle.bridge_filter.specs.Steps.{IsMadeIfAny, AreMade, new_filter, new_filters, filter_plans}
use Rattle.bridge_filter.proofs.Found.{second_lesser}

-- A number in the middle of a list is listed.

is_there_inside : {X : Type 0} (k : ℕ) (p : X) (xs ys : List (ℕ × X)) → is_listed k (xs ++ (k, p) ∷ ys) ≡ true
is_there_inside k p [] ys = rw (same_eq k) refl
is_there_inside k p (x ∷ xs) ys = by_bool (nat_eq k x.0) (λ e. rw e refl) (λ e. rw e (is_there_inside k p xs ys))

both_hold : (a b : Bool) → not a && b ≡ true → (a ≡ false) × (b ≡ true)
both_hold true b h = absurd (cc)
both_hold false b h = (refl, h)

-- If numbers are distinct, a later number isn't among the earlier ones.
pub lookup_before : {X : Type 0} (k : ℕ) (p : X) (xs ys : List (ℕ × X)) → are_numbers_distinct (xs ++ (k, p) ∷ ys) ≡ true → lookup (nat_eq k) xs ≡ None
lookup_before k p [] ys h = refl
lookup_before k p (x ∷ xs) ys h =
    let apart = both_hold (is_listed x.0 (xs ++ (k, p) ∷ ys)) (are_numbers_distinct (xs ++ (k, p) ∷ ys)) h in
    by_bool (nat_eq k x.0)
    (λ e. absurd (let there = subst (λ (n : ℕ). is_listed n (xs ++ (k, p) ∷ ys) ≡ true) (eqb-true k x.0 e) (is_there_inside k p xs ys) in let away = apart.0 in cc))
    (λ e. rw e (lookup_before k p xs ys apart.1))

lookup-more_other : {X : Type 0} (q k : ℕ) (p : X) (xs : List (ℕ × X)) → nat_eq q k ≡ false → lookup (nat_eq q) (xs ++ (k, p) ∷ []) ≡ lookup (nat_eq q) xs
lookup-more_other q k p [] h = rw h refl
lookup-more_other q k p (x ∷ xs) h = by_bool (nat_eq q x.0) (λ e. rw e refl) (λ e. rw e (lookup-more_other q k p xs h))

lookup-more_own : {X : Type 0} (k : ℕ) (p : X) (xs : List (ℕ × X)) → lookup (nat_eq k) xs ≡ None → lookup (nat_eq k) (xs ++ (k, p) ∷ []) ≡ Some p
lookup-more_own k p [] h = rw (same_eq k) refl
lookup-more_own k p (x ∷ xs) h = by_bool (nat_eq k x.0)
    (λ e. absurd (let z = rw e at h in cc))
    (λ e. let z : lookup (nat_eq k) xs ≡ None = rw e at h in rw e (lookup-more_own k p xs z))

-- Extends `AreMade` by one plan and its instance.
pub made_more : {P X : Type 0} (R : P → X → Type 0) (plans : List (ℕ × P)) (made new : List (ℕ × X)) (k : ℕ) (p : P) (x : X) → lookup (nat_eq k) plans ≡ None → ((q : ℕ) → lookup (nat_eq q) new ≡ (if nat_eq k q then Some x else lookup (nat_eq q) made)) → R p x → AreMade R plans made → AreMade R (plans ++ (k, p) ∷ []) new
made_more R plans made new k p x absent update r all q = by_bool (nat_eq k q)
    (λ e.
    let same : k ≡ q = eqb-true k q e in
    let here : lookup (nat_eq k) new ≡ Some x = update k ∙ rw (same_eq k) refl in
    subst (λ (n : ℕ). IsMadeIfAny R (lookup (nat_eq n) (plans ++ (k, p) ∷ [])) (lookup (nat_eq n) new)) same (rw (lookup-more_own k p plans absent, here) r))
    (λ e.
    let there : lookup (nat_eq q) new ≡ lookup (nat_eq q) made = update q ∙ rw e refl in
    rw (lookup-more_other q k p plans (swapped k q e), there) (all q))

-- A list is its first items, the item at index `i`, and the rest.
around : {X : Type 0} (xs : List X) (i : ℕ) (d : X) → i < length xs → take i xs ++ get_or xs i d ∷ drop (i + 1) xs ≡ xs
around xs i d h = rw (add-one, ← drop-cons xs i d) (take-append-drop i xs)

pub distinct_at : {X : Type 0} (xs : List (ℕ × X)) (i : ℕ) (d : ℕ × X) → i < length xs → are_numbers_distinct xs ≡ true → lookup (nat_eq (get_or xs i d).0) (take i xs) ≡ None
distinct_at {X} xs i d h distinct =
    let x = get_or xs i d in
    lookup_before x.0 x.1 (take i xs) (drop (i + 1) xs) (subst (λ (z : List (ℕ × X)). are_numbers_distinct z ≡ true) (sym (around xs i d h)) distinct)

pub made_at : {P X : Type 0} (R : P → X → Type 0) (plans : List (ℕ × P)) (i : ℕ) (d : ℕ × P) (made new : List (ℕ × X)) (x : X) → i < length plans → are_numbers_distinct plans ≡ true → ((q : ℕ) → lookup (nat_eq q) new ≡ (if nat_eq (get_or plans i d).0 q then Some x else lookup (nat_eq q) made)) → R (get_or plans i d).1 x → AreMade R (take i plans) made → AreMade R (take (i + 1) plans) new
made_at R plans i d made new x h distinct update r all =
    let p = get_or plans i d in
    subst (λ (z : List _). AreMade R z new) (sym (take_more plans i d h)) (made_more R (take i plans) made new p.0 p.1 x (distinct_at plans i d h distinct) update r all)

-- States of new filters.

pub lookup-new_filters : (n : ℕ) (fs : List (ℕ × FilterPlan)) → lookup (nat_eq n) (new_filters fs) ≡ option_map new_filter (lookup (nat_eq n) fs)
lookup-new_filters n [] = refl
lookup-new_filters n (f ∷ fs) = by_bool (nat_eq n f.0) (λ e. rw e refl) (λ e. rw e (lookup-new_filters n fs))

pub plans_in-new_filters : (fs : List (ℕ × FilterPlan)) → filter_plans (new_filters fs) ≡ fs
plans_in-new_filters [] = refl
plans_in-new_filters (f ∷ fs) = ap (λ (z : List (ℕ × FilterPlan)). f ∷ z) (plans_in-new_filters fs)

pub new_filters-more : (fs : List (ℕ × FilterPlan)) (i : ℕ) (d : ℕ × FilterPlan) → i < length fs → new_filters (take i fs) ++ ((get_or fs i d).0, new_filter (get_or fs i d).1) ∷ [] ≡ new_filters (take (i + 1) fs)
new_filters-more fs i d h = rw (take_more fs i d h) (sym (map-append (λ (f : ℕ × FilterPlan). (f.0, new_filter f.1)) (take i fs) (get_or fs i d ∷ [])))

pub new_filter_absent : (fs : List (ℕ × FilterPlan)) (i : ℕ) (d : ℕ × FilterPlan) → i < length fs → are_numbers_distinct fs ≡ true → lookup (nat_eq (get_or fs i d).0) (new_filters (take i fs)) ≡ None
new_filter_absent fs i d h distinct = lookup-new_filters (get_or fs i d).0 (take i fs) ∙ ap (option_map new_filter) (distinct_at fs i d h distinct)

-- Steps of the search for the least number.

least_step : (a b : Bool) (m n : ℕ) (o rest : Option ℕ) → rest ≡ (if b then lesser_number (Some n) o else o) → (if a then lesser_number (Some m) rest else rest) ≡ (if b then lesser_number (Some n) (if a then lesser_number (Some m) o else o) else (if a then lesser_number (Some m) o else o))
least_step true true m n o rest h = rw h (second_lesser m (Some n) o)
least_step true false m n o rest h = rw h refl
least_step false true m n o rest h = h
least_step false false m n o rest h = h

pub least_by-more : (test : FilterPlan → Bool) (fs : List (ℕ × FilterPlan)) (f : ℕ × FilterPlan) → least_passing test (fs ++ f ∷ []) ≡ (if test f.1 then lesser_number (Some f.0) (least_passing test fs) else least_passing test fs)
least_by-more test [] f = refl
least_by-more test (g ∷ fs) f = least_step (test g.1) (test f.1) g.0 f.0 (least_passing test fs) (least_passing test (fs ++ f ∷ [])) (least_by-more test fs f)

pub least_by-at : (test : FilterPlan → Bool) (fs : List (ℕ × FilterPlan)) (i : ℕ) (d : ℕ × FilterPlan) → i < length fs → least_passing test (take (i + 1) fs) ≡ (if test (get_or fs i d).1 then lesser_number (Some (get_or fs i d).0) (least_passing test (take i fs)) else least_passing test (take i fs))
least_by-at test fs i d h = rw (take_more fs i d h) (least_by-more test (take i fs) (get_or fs i d))

-- An item of a list passes a test that all items pass.
pub passes_inside : {X : Type 0} (p : X → Bool) (xs : List X) (y : X) (ys : List X) → list_all p (xs ++ y ∷ ys) ≡ true → p y ≡ true
passes_inside p [] y ys h = (and_parts (p y) (list_all p ys) h).0
passes_inside p (x ∷ xs) y ys h = passes_inside p xs y ys (and_parts (p x) (list_all p (xs ++ y ∷ ys)) h).1

pub passes_at : {X : Type 0} (test : X → Bool) (xs : List X) (i : ℕ) (d : X) → i < length xs → list_all test xs ≡ true → test (get_or xs i d) ≡ true
passes_at test xs i d h pass = passes_inside test (take i xs) (get_or xs i d) (drop (i + 1) xs) (subst (λ (z : List _). list_all test z ≡ true) (sym (around xs i d h)) pass)

-- Taken items and remaining items make up the whole list.

pub taken_whole : {X : Type 0} (taken before : List X) (x : X) (after all : List X) → taken ++ before ≡ all → before ≡ x ∷ after → taken ++ x ∷ after ≡ all
taken_whole taken before x after all h e = ap (λ (z : List _). taken ++ z) (sym e) ∙ h

pub taken_more : {X : Type 0} (taken before : List X) (x : X) (after all : List X) → taken ++ before ≡ all → before ≡ x ∷ after → taken ++ x ∷ [] ++ after ≡ all
taken_more taken before x after all h e = append_assoc taken (x ∷ []) after ∙ taken_whole taken before x after all h e

pub taken_all : {X : Type 0} (taken before all : List X) → taken ++ before ≡ all → before ≡ [] → all ≡ taken
taken_all taken before all h e = sym h ∙ (ap (λ (z : List _). taken ++ z) e ∙ append-nil taken)

-- Extends `AreMade` by the next plan of a list.
pub made_taken : {P X : Type 0} (R : P → X → Type 0) (taken before after all : List (ℕ × P)) (made new : List (ℕ × X)) (k : ℕ) (p : P) (x : X) → taken ++ before ≡ all → before ≡ (k, p) ∷ after → are_numbers_distinct all ≡ true → ((q : ℕ) → lookup (nat_eq q) new ≡ (if nat_eq k q then Some x else lookup (nat_eq q) made)) → R p x → AreMade R taken made → AreMade R (taken ++ (k, p) ∷ []) new
made_taken R taken before after all made new k p x h e distinct update r are =
    let whole = taken_whole taken before (k, p) after all h e in
    made_more R taken made new k p x (lookup_before k p taken after (subst (λ (z : List _). are_numbers_distinct z ≡ true) (sym whole) distinct)) update r are

pub passes_taken : {X : Type 0} (test : X → Bool) (taken before : List X) (x : X) (after all : List X) → taken ++ before ≡ all → before ≡ x ∷ after → list_all test all ≡ true → test x ≡ true
passes_taken test taken before x after all h e pass = passes_inside test taken x after (subst (λ (z : List _). list_all test z ≡ true) (sym (taken_whole taken before x after all h e)) pass)

-- Number of remaining items.

length-cons : {X : Type 0} (x : X) (xs : List X) → length (x ∷ xs) ≡ length xs + 1
length-cons x xs = omega arith

pub left_more : {X : Type 0} (n m : ℕ) (before after : List X) (x : X) → n ≡ length before → before ≡ x ∷ after → m + 1 ≡ n → m ≡ length after
left_more n m before after x h e k =
    let l : length before ≡ length after + 1 = ap length e ∙ length-cons x after in
    omega arith

pub none_left : {X : Type 0} (n : ℕ) (left : List X) → n ≡ length left → n ≡ 0 → left ≡ []
none_left n [] h k = refl
none_left n (x ∷ xs) h k = absurd (let l = length-cons x xs in omega arith)
