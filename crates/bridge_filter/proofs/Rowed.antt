-- Rows by which filters are found, extended by one filter at a time.
use Rattle.std.proofs.Common.{◌≡◌, ◌≢◌, ℕ, Bool, true, false, List, [], ◌+◌, ◌<◌, ◌≤◌, arith, refl, ap, ◌∙◌, sym, subst, inl, inr, length, take, get_or, Option, Some, None, replicate, zero, suc, get_or-set_same, get_or-set_other, min}
use Rattle.std.specs.Prelude.{◌&&◌, if◌then◌else◌, is_none, IfSome, nat_lt, slice_set, slice_get, slice_index, nat_eq, ◌∷◌, ◌++◌}
use Rattle.std.specs.Option.{option_map, unwrap_or}
use Rattle.std.specs.Map.{lookup}
use Rattle.std.proofs.lemmas.Bool.{cases_lt}
use Rattle.std.proofs.lemmas.Bool.Decides.{nat_tests}
use Rattle.std.proofs.lemmas.List.{length-append, length-map, map-set, get_or-map, take_all}
use Rattle.std.proofs.lemmas.Map.Made.{lookup-map_values}
use Rattle.std.proofs.lemmas.Option.{same_Some, slice_get_past, slice_get_within, get_or_from_slice_get}
use Rattle.bridge_filter.specs.declared.FilterPlan.{FilterPlan}
use Rattle.bridge_filter.specs.declared.filter_state.FilterState.{FilterState}
use Rattle.bridge_filter.specs.declared.route.Route.{Route}
use Rattle.bridge_filter.specs.Verdicts.{is_priority_match}
use Rattle.bridge_filter.specs.Routes.{lesser_number, least_passing, least_named, is_named_handle, slot, slot_number, lesser_route, add_to_slot, find_row, read_row, read_rows, IsDefaultRow, AreHandleRows, HasRoutes, HaveRoutes, IsRoute, AreRoutes}
use Rattle.bridge_filter.specs.Steps.{filter_plans}
use Rattle.bridge_filter.proofs.Found.{first_lesser}
use Rattle.bridge_filter.proofs.Made.{least_by-at}

abbrev pub number_of : Option Route → Option ℕ
number_of o = option_map (λ (r : Route). r.number) o

-- An empty row has no filter.
pub slot-empty : (n k : ℕ) → slot (replicate n None) k ≡ None
slot-empty zero k = refl
slot-empty (suc n) zero = refl
slot-empty (suc n) (suc k) = slot-empty n k

-- Adds a filter to the slots of a row one by one.
pub put_more : (was row : List (Option Route)) (i : ℕ) (asked : Option ℕ) (r : Route) (o : Option Route) → i < length row → o ≡ add_to_slot (slot row i) asked r i → ((c : ℕ) → c < i → slot row c ≡ add_to_slot (slot was c) asked r c) → ((c : ℕ) → i ≤ c → slot row c ≡ slot was c) → (c : ℕ) → c < i + 1 → slot (slice_set row i o) c ≡ add_to_slot (slot was c) asked r c
put_more was row i asked r o l is before after c k = elim (cases_lt c i) [
  | inl a ↦ let other : c ≢ i = omega arith in rw get_or-set_other (before c a)
  | inr a ↦
      let same : i ≡ c = omega arith in
      let P : ℕ → Type 0 = λ n. slot (slice_set row i o) n ≡ add_to_slot (slot was n) asked r n in
      subst P same (rw get_or-set_same (is ∙ ap (λ (x : Option Route). add_to_slot x asked r i) (after i (omega arith))))
]

pub put_left : (was row : List (Option Route)) (i : ℕ) (o : Option Route) → ((c : ℕ) → i ≤ c → slot row c ≡ slot was c) → (c : ℕ) → i + 1 ≤ c → slot (slice_set row i o) c ≡ slot was c
put_left was row i o after c k = let other : c ≢ i = omega arith in rw get_or-set_other (after c (omega arith))

-- Number of the route with the lesser number.

number_chosen : (b : Bool) (r q : Route) → nat_lt q.number r.number ≡ b → number_of (if b then Some q else Some r) ≡ Some (min r.number q.number)
number_chosen true r q h = let k : q.number < r.number = grind (arith, nat_tests) in ap Some (omega arith)
number_chosen false r q h = let k : r.number ≤ q.number = grind (arith, nat_tests) in ap Some (omega arith)

number-lesser : (r : Route) (o : Option Route) → number_of (lesser_route r o) ≡ lesser_number (Some r.number) (number_of o)
number-lesser r None = refl
number-lesser r (Some q) = number_chosen (nat_lt q.number r.number) r q refl

number_if : (b : Bool) (r : Route) (o : Option Route) → number_of (if b then lesser_route r o else o) ≡ (if b then lesser_number (Some r.number) (number_of o) else number_of o)
number_if true r o = number-lesser r o
number_if false r o = refl

-- A property of two routes holds for the lesser one.

chosen_has : (P : Route → Type 0) (b : Bool) (r q : Route) → P r → P q → IfSome (if b then Some q else Some r) P
chosen_has P true r q h k = k
chosen_has P false r q h k = h

lesser_has : (P : Route → Type 0) (r : Route) (o : Option Route) → P r → IfSome o P → IfSome (lesser_route r o) P
lesser_has P r None h k = h
lesser_has P r (Some q) h k = chosen_has P (nat_lt q.number r.number) r q h k

pub kept_has : (P : Route → Type 0) (b : Bool) (r : Route) (o : Option Route) → P r → IfSome o P → IfSome (if b then lesser_route r o else o) P
kept_has P true r o h k = lesser_has P r o h k
kept_has P false r o h k = k

both_tests : (a b : Bool) (r : Route) (o : Option Route) → (if a then (if b then lesser_route r o else o) else o) ≡ (if a && b then lesser_route r o else o)
both_tests true b r o = refl
both_tests false b r o = refl

-- Extends the least number that passes a test by the filter at index `i`.
least_more : (test : FilterPlan → Bool) (fs : List (ℕ × FilterPlan)) (i n : ℕ) (plan : FilterPlan) → slice_get fs i ≡ Some (n, plan) → least_passing test (take (i + 1) fs) ≡ (if test plan then lesser_number (Some n) (least_passing test (take i fs)) else least_passing test (take i fs))
least_more test fs i n plan there =
    let d : ℕ × FilterPlan = (n, plan) in
    let is : get_or fs i d ≡ d = get_or_from_slice_get fs i d d there in
    subst (λ (x : ℕ × FilterPlan). least_passing test (take (i + 1) fs) ≡ (if test x.1 then lesser_number (Some x.0) (least_passing test (take i fs)) else least_passing test (take i fs))) is (least_by-at test fs i d (slice_get_within fs i d there))

-- Extends a slot's number by one more filter.
pub number_more : (test : FilterPlan → Bool) (fs : List (ℕ × FilterPlan)) (i : ℕ) (plan : FilterPlan) (r : Route) (o : Option Route) → slice_get fs i ≡ Some (r.number, plan) → number_of o ≡ least_passing test (take i fs) → number_of (if test plan then lesser_route r o else o) ≡ least_passing test (take (i + 1) fs)
number_more test fs i plan r o there is = number_if (test plan) r o ∙ (rw is refl ∙ sym (least_more test fs i r.number plan there))

-- Extends the default row by one more filter.
pub any_more : (any new : List (Option Route)) (fs : List (ℕ × FilterPlan)) (i : ℕ) (plan : FilterPlan) (r : Route) → slice_get fs i ≡ Some (r.number, plan) → IsDefaultRow any (take i fs) → ((k : ℕ) → k < 8 → slot new k ≡ (if is_none plan.handle then add_to_slot (slot any k) plan.priority r k else slot any k)) → IsDefaultRow new (take (i + 1) fs)
any_more any new fs i plan r there is put k l =
    ap number_of (put k l ∙ both_tests (is_none plan.handle) (is_priority_match plan.priority k) r (slot any k)) ∙ number_more (λ (x : FilterPlan). is_none x.handle && is_priority_match x.priority k) fs i plan r (slot any k) there (is k l)

own_step : (b : Bool) (n : ℕ) (x y z : Option ℕ) → z ≡ lesser_number x y → (if b then lesser_number (Some n) z else z) ≡ lesser_number (if b then lesser_number (Some n) x else x) y
own_step true n x y z h = rw h (first_lesser n x y)
own_step false n x y z h = h

-- Extends the rows of the handles by one more filter.
pub own_more : (rows new : List (ℕ × List (Option Route))) (any : List (Option Route)) (fs : List (ℕ × FilterPlan)) (i : ℕ) (plan : FilterPlan) (r : Route) → slice_get fs i ≡ Some (r.number, plan) → AreHandleRows rows any (take i fs) → ((h k : ℕ) → k < 8 → slot (find_row new any (Some h)) k ≡ (if is_named_handle h plan.handle then add_to_slot (slot (find_row rows any (Some h)) k) plan.priority r k else slot (find_row rows any (Some h)) k)) → AreHandleRows new any (take (i + 1) fs)
own_more rows new any fs i plan r there are put h k m =
    let was = slot (find_row rows any (Some h)) k in
    let test : FilterPlan → Bool = λ x. is_named_handle h x.handle && is_priority_match x.priority k in
    ap number_of (put h k m ∙ both_tests (is_named_handle h plan.handle) (is_priority_match plan.priority k) r was) ∙ (number_if (test plan) r was ∙ (own_step (test plan) r.number (least_named h k (take i fs)) (slot_number any k) (number_of was) (are h k m) ∙ ap (λ (o : Option ℕ). lesser_number o (slot_number any k)) (sym (least_more test fs i r.number plan there))))

-- Extends the routes of all rows by one more filter.

pub routes_any : (any new : List (Option Route)) (fs : List (ℕ × FilterPlan)) (gates meters : List ℕ) (plan : FilterPlan) (r : Route) → IsRoute fs gates meters r → HasRoutes any fs gates meters → ((k : ℕ) → k < 8 → slot new k ≡ (if is_none plan.handle then add_to_slot (slot any k) plan.priority r k else slot any k)) → HasRoutes new fs gates meters
routes_any any new fs gates meters plan r is have put k l =
    let P : Route → Type 0 = IsRoute fs gates meters in
    let b = is_none plan.handle && is_priority_match plan.priority k in
    subst (λ (o : Option Route). IfSome o P) (sym (put k l ∙ both_tests (is_none plan.handle) (is_priority_match plan.priority k) r (slot any k))) (kept_has P b r (slot any k) is (have k l))

pub routes_own : (rows new : List (ℕ × List (Option Route))) (any : List (Option Route)) (fs : List (ℕ × FilterPlan)) (gates meters : List ℕ) (plan : FilterPlan) (r : Route) → IsRoute fs gates meters r → HaveRoutes rows any fs gates meters → ((h k : ℕ) → k < 8 → slot (find_row new any (Some h)) k ≡ (if is_named_handle h plan.handle then add_to_slot (slot (find_row rows any (Some h)) k) plan.priority r k else slot (find_row rows any (Some h)) k)) → HaveRoutes new any fs gates meters
routes_own rows new any fs gates meters plan r is have put None k l = have None k l
routes_own rows new any fs gates meters plan r is have put (Some h) k l =
    let P : Route → Type 0 = IsRoute fs gates meters in
    let was = slot (find_row rows any (Some h)) k in
    let b = is_named_handle h plan.handle && is_priority_match plan.priority k in
    subst (λ (o : Option Route). IfSome o P) (sym (put h k l ∙ both_tests (is_named_handle h plan.handle) (is_priority_match plan.priority k) r was)) (kept_has P b r was is (have (Some h) k l))

-- Numbers in an empty row.
pub empty_numbers : IsDefaultRow (replicate 8 None) []
empty_numbers k l = ap number_of (slot-empty 8 k)

pub empty_routes : (fs : List (ℕ × FilterPlan)) (gates meters : List ℕ) → HasRoutes (replicate 8 None) fs gates meters
empty_routes fs gates meters k l = subst (λ (o : Option Route). IfSome o (IsRoute fs gates meters)) (sym (slot-empty 8 k)) tt

-- Routes of all rows if no handle has a row of its own.
pub routes_start : (any : List (Option Route)) (fs : List (ℕ × FilterPlan)) (gates meters : List ℕ) → HasRoutes any fs gates meters → HaveRoutes [] any fs gates meters
routes_start any fs gates meters have None k l = have k l
routes_start any fs gates meters have (Some h) k l = have k l

-- Rows of indexes, with the routes at these indexes.

pub slot-read : (routes : List Route) (row : List ℕ) (k : ℕ) → k < length row → slot (read_row routes row) k ≡ slice_get routes (slice_index row k)
slot-read routes row k l = get_or-map (λ (i : ℕ). slice_get routes i) row k 0 None l

pub read-set : (routes : List Route) (row : List ℕ) (k i : ℕ) → read_row routes (slice_set row k i) ≡ slice_set (read_row routes row) k (slice_get routes i)
read-set routes row k i = map-set (λ (j : ℕ). slice_get routes j) row k i

read-unwrap_or : (routes : List Route) (o : Option (List ℕ)) (any : List ℕ) → unwrap_or (option_map (read_row routes) o) (read_row routes any) ≡ read_row routes (unwrap_or o any)
read-unwrap_or routes None any = refl
read-unwrap_or routes (Some row) any = refl

pub find-read : (routes : List Route) (rows : List (ℕ × List ℕ)) (any : List ℕ) (handle : Option ℕ) → find_row (read_rows routes rows) (read_row routes any) handle ≡ read_row routes (find_row rows any handle)
find-read routes rows any None = refl
find-read routes rows any (Some h) = ap (λ (o : Option (List (Option Route))). unwrap_or o (read_row routes any)) (lookup-map_values (read_row routes) (nat_eq h) rows) ∙ read-unwrap_or routes (lookup (nat_eq h) rows) any

-- A route that is read from the row of its handle.
pub found_in_rows : (routes : List Route) (rows : List (ℕ × List ℕ)) (any : List ℕ) (handle : Option ℕ) (priority : ℕ) (row : List ℕ) (o : Option Route) → row ≡ find_row rows any handle → o ≡ slot (read_row routes row) priority → o ≡ slot (find_row (read_rows routes rows) (read_row routes any) handle) priority
found_in_rows routes rows any handle priority row o e is = is ∙ ap (λ (r : List (Option Route)). slot r priority) (ap (read_row routes) e ∙ sym (find-read routes rows any handle))

-- A row of indexes past the end has no routes.
pub read-past : (routes : List Route) (n : ℕ) → read_row routes (replicate n (length routes)) ≡ replicate n None
read-past routes zero = refl
read-past routes (suc n) = rw (slice_get_past routes (length routes) (omega arith), read-past routes n) refl

-- Extends the list of routes by one more route.
pub listed_more : (P : ℕ → Route → Type 0) (routes : List Route) (r : Route) → P (length routes) r → ((i : ℕ) (q : Route) → slice_get routes i ≡ Some q → P i q) → (i : ℕ) (q : Route) → slice_get (routes ++ r ∷ []) i ≡ Some q → P i q
listed_more P [] r here each zero q h = subst (P 0) (same_Some r q h) here
listed_more P [] r here each (suc i) q h = absurd (cc)
listed_more P (x ∷ routes) r here each zero q h = each zero q h
listed_more P (x ∷ routes) r here each (suc i) q h = listed_more (λ j. P (suc j)) routes r here (λ j p k. each (suc j) p k) i q h

-- The plans of the first filters are all plans, if the filters are no more.
pub all_plans : (filters : List (ℕ × FilterState)) (n : ℕ) → length filters ≤ n → take n (filter_plans filters) ≡ filter_plans filters
all_plans filters n l = take_all n (filter_plans filters) (subst (λ (m : ℕ). m ≤ n) (sym (length-map filters (λ (f : ℕ × FilterState). (f.0, f.1.plan)))) l)

pub listed_push : (fs : List (ℕ × FilterPlan)) (gates meters : List ℕ) (routes new : List Route) (r : Route) (n : ℕ) → new ≡ routes ++ r ∷ [] → length routes ≡ n → r.filter ≡ n → IsRoute fs gates meters r → ((i : ℕ) (q : Route) → slice_get routes i ≡ Some q → q.filter ≡ i) → ((i : ℕ) (q : Route) → slice_get routes i ≡ Some q → IsRoute fs gates meters q) → (length new ≡ n + 1) × (((i : ℕ) (q : Route) → slice_get new i ≡ Some q → q.filter ≡ i) × ((i : ℕ) (q : Route) → slice_get new i ≡ Some q → IsRoute fs gates meters q))
listed_push fs gates meters routes new r n e size place is places each = rw e (
  (length-append routes (r ∷ []) ∙ ap (λ (m : ℕ). m + 1) size),
  (listed_more (λ i q. q.filter ≡ i) routes r (place ∙ sym size) places, listed_more (λ i q. IsRoute fs gates meters q) routes r is each),
)

-- Statement: The rows with the routes at their indexes give the right filter for each frame.
pub record AreNewRows (fs : List (ℕ × FilterPlan)) (gates meters : List ℕ) (routes : List Route) (any : List ℕ) (rows : List (ℕ × List ℕ)) : Type 0 where
  pub numbers : IsDefaultRow (read_row routes any) fs
  pub handles : AreHandleRows (read_rows routes rows) (read_row routes any) fs
  pub routes_found : HaveRoutes (read_rows routes rows) (read_row routes any) fs gates meters

-- Joins what the two functions that make rows promise. They got the list of routes as the slices `one` and `two`.
pub new_rows : (fs : List (ℕ × FilterPlan)) (gates meters : List ℕ) (routes one two : List Route) (any : List ℕ) (rows : List (ℕ × List ℕ)) → one ≡ routes → two ≡ routes → AreRoutes routes fs gates meters → (AreRoutes one fs gates meters → IsDefaultRow (read_row one any) fs) → (AreRoutes one fs gates meters → HasRoutes (read_row one any) fs gates meters) → (AreRoutes two fs gates meters → AreHandleRows (read_rows two rows) (read_row two any) fs) → (AreRoutes two fs gates meters → HasRoutes (read_row two any) fs gates meters → HaveRoutes (read_rows two rows) (read_row two any) fs gates meters) → AreNewRows fs gates meters routes any rows
new_rows fs gates meters routes one two any rows e k are numbers has handles have =
    let a : IsDefaultRow (read_row routes any) fs = subst (λ (z : List Route). AreRoutes z fs gates meters → IsDefaultRow (read_row z any) fs) e numbers are in
    let b : HasRoutes (read_row routes any) fs gates meters = subst (λ (z : List Route). AreRoutes z fs gates meters → HasRoutes (read_row z any) fs gates meters) e has are in
    let c : AreHandleRows (read_rows routes rows) (read_row routes any) fs = subst (λ (z : List Route). AreRoutes z fs gates meters → AreHandleRows (read_rows z rows) (read_row z any) fs) k handles are in
    let d : HaveRoutes (read_rows routes rows) (read_row routes any) fs gates meters = subst (λ (z : List Route). AreRoutes z fs gates meters → HasRoutes (read_row z any) fs gates meters → HaveRoutes (read_rows z rows) (read_row z any) fs gates meters) k have are b in
    record { numbers = a; handles = c; routes_found = d }
