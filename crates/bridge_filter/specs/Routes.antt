-- How a frame's filter is found: each stream handle has a row with one route for each priority, to the matching filter
-- with the least number.
use Rattle.std.specs.Prelude.{◌≡◌, ℕ, ◌<◌, Bool, false, ◌&&◌, nat_eq, nat_lt, min, Option, Some, None, is_none, IfSome, List, [], ◌∷◌, length, map, if◌then◌else◌, slice_index_or, slice_get}
use Rattle.std.specs.Option.{option_map, unwrap_or}
use Rattle.std.specs.Map.{lookup, keys_of}
use Rattle.bridge_filter.specs.declared.FilterPlan.{FilterPlan}
use Rattle.bridge_filter.specs.declared.route.Route.{Route}
use Rattle.bridge_filter.specs.Verdicts.{is_handle_match, is_priority_match, frame_filter, filter_input}
use Rattle.bridge_filter.specs.StandsFor.{PoliceState}

-- The smaller of two filter numbers; the only number if one argument is `None`; `None` if both are `None`.
abbrev pub lesser_number : Option ℕ → Option ℕ → Option ℕ
lesser_number None n = n
lesser_number (Some m) None = Some m
lesser_number (Some m) (Some n) = Some (min m n)

-- Least number of the filters for which `test` is true; `None` if `test` is true for no filter.
abbrev pub least_passing : (FilterPlan → Bool) → List (ℕ × FilterPlan) → Option ℕ
least_passing test [] = None
least_passing test (f ∷ fs) = if test f.1 then lesser_number (Some f.0) (least_passing test fs) else least_passing test fs

-- Least number of the filters that match this handle and priority; `None` if no filter matches.
abbrev pub least_match : Option ℕ → ℕ → List (ℕ × FilterPlan) → Option ℕ
least_match handle priority fs = least_passing (λ f. is_handle_match f.handle handle && is_priority_match f.priority priority) fs

-- Least number of the filters without a handle that match this priority; `None` if no filter without a handle matches.
abbrev pub least_unnamed : ℕ → List (ℕ × FilterPlan) → Option ℕ
least_unnamed priority fs = least_passing (λ f. is_none f.handle && is_priority_match f.priority priority) fs

-- True if the filter names exactly this handle; false for a filter without handle.
abbrev pub is_named_handle : ℕ → Option ℕ → Bool
is_named_handle h None = false
is_named_handle h (Some m) = nat_eq m h

-- Least number of the filters with exactly this handle that match this priority; `None` if no filter with this handle
-- matches.
abbrev pub least_named : ℕ → ℕ → List (ℕ × FilterPlan) → Option ℕ
least_named h priority fs = least_passing (λ f. is_named_handle h f.handle && is_priority_match f.priority priority) fs

-- Route in a row for a priority; `None` if no filter matches.
abbrev pub slot : List (Option Route) → ℕ → Option Route
slot row priority = slice_index_or row priority None

-- Filter number in a row for a priority; `None` if no filter matches.
abbrev pub slot_number : List (Option Route) → ℕ → Option ℕ
slot_number row priority = option_map (λ r. r.number) (slot row priority)

-- Route with the lower filter number; `r` if there is no other route.
abbrev pub lesser_route : Route → Option Route → Option Route
lesser_route r None = Some r
lesser_route r (Some q) = if nat_lt q.number r.number then Some q else Some r

-- Route of a row for `priority` after one more filter: the lesser route if the filter accepts the priority, otherwise
-- `o`. `asked` is the filter's priority; `None` accepts all.
abbrev pub add_to_slot : Option Route → Option ℕ → Route → ℕ → Option Route
add_to_slot o asked r priority = if is_priority_match asked priority then lesser_route r o else o

-- Row of a frame's handle: the row of this handle, or the default row.
abbrev pub find_row : {R : Type 0} → List (ℕ × R) → R → Option ℕ → R
find_row rows any None = any
find_row rows any (Some h) = unwrap_or (lookup (nat_eq h) rows) any

-- Routes at a row's indexes in the list of all routes; `None` at an index past the end of this list.
abbrev pub read_row : List Route → List ℕ → List (Option Route)
read_row routes row = map (λ i. slice_get routes i) row

-- Rows by handle, with routes instead of indexes.
abbrev pub read_rows : List Route → List (ℕ × List ℕ) → List (ℕ × List (Option Route))
read_rows routes rows = map (λ r. (r.0, read_row routes r.1)) rows

-- Holds if the default row has, at each priority, the least number of the filters without a handle that match it.
abbrev pub IsDefaultRow : List (Option Route) → List (ℕ × FilterPlan) → Type 0
IsDefaultRow any fs = (k : ℕ) → k < 8 → slot_number any k ≡ least_unnamed k fs

-- Holds if each handle's row has, at each priority, the lesser of two numbers: that of the default row, and the least
-- one of the filters with exactly this handle.
abbrev pub AreHandleRows : List (ℕ × List (Option Route)) → List (Option Route) → List (ℕ × FilterPlan) → Type 0
AreHandleRows rows any fs = (h k : ℕ) → k < 8 → slot_number (find_row rows any (Some h)) k ≡ lesser_number (least_named h k fs) (slot_number any k)

-- Holds if for each handle and priority, the row has the least number of the matching filters.
abbrev pub AreRouteRows : List (ℕ × List (Option Route)) → List (Option Route) → List (ℕ × FilterPlan) → Type 0
AreRouteRows rows any fs = (handle : Option ℕ) (k : ℕ) → k < 8 → slot_number (find_row rows any handle) k ≡ least_match handle k fs

-- Holds if the optional index is the index of the optional number, and `None` exactly if there is no number.
abbrev pub IsOptionalIndex : List ℕ → Option ℕ → Option ℕ → Type 0
IsOptionalIndex numbers None None = Unit {0}
IsOptionalIndex numbers None (Some i) = ⊥
IsOptionalIndex numbers (Some n) None = ⊥
IsOptionalIndex numbers (Some n) (Some i) = slice_get numbers i ≡ Some n

-- Holds if the route has the indexes of the filter's gate and meter.
pub record HasInstanceIndices (f : FilterPlan) (gates meters : List ℕ) (r : Route) : Type 0 where
  pub gate : slice_get gates r.gate ≡ Some f.gate
  pub meter : IsOptionalIndex meters f.meter r.meter

-- Holds if the route has the number and index of a filter, and the indexes of its gate and meter.
pub record IsRoute (fs : List (ℕ × FilterPlan)) (gates meters : List ℕ) (r : Route) : Type 0 where
  pub plan : FilterPlan
  pub filter : slice_get fs r.filter ≡ Some (r.number, plan)
  pub served : HasInstanceIndices plan gates meters r

-- Holds if the list has a route for each filter, with the filter's index.
pub record AreRoutes (routes : List Route) (fs : List (ℕ × FilterPlan)) (gates meters : List ℕ) : Type 0 where
  pub size : length routes ≡ length fs
  pub places : (i : ℕ) (r : Route) → slice_get routes i ≡ Some r → r.filter ≡ i
  pub each : (i : ℕ) (r : Route) → slice_get routes i ≡ Some r → IsRoute fs gates meters r

-- Holds if each route of the row has the properties of `IsRoute`. A row has the routes of one handle by priority.
abbrev pub HasRoutes : List (Option Route) → List (ℕ × FilterPlan) → List ℕ → List ℕ → Type 0
HasRoutes row fs gates meters = (k : ℕ) → k < 8 → IfSome (slot row k) (IsRoute fs gates meters)

-- Holds if each route of all rows has the properties of `IsRoute`.
abbrev pub HaveRoutes : List (ℕ × List (Option Route)) → List (Option Route) → List (ℕ × FilterPlan) → List ℕ → List ℕ → Type 0
HaveRoutes rows any fs gates meters = (handle : Option ℕ) → HasRoutes (find_row rows any handle) fs gates meters

-- Holds if the optional route is the route of frames with this handle and priority: it names their filter, and is
-- `None` if no filter matches.
pub record IsFoundRoute {A : Type 0} (s : PoliceState A) (handle : Option ℕ) (priority : ℕ) (o : Option Route) : Type 0 where
  pub number : (at sdu octets : ℕ) (dei : Bool) → option_map (λ r. r.number) o ≡ option_map (λ f. f.0) (frame_filter s.filters (filter_input at handle priority dei sdu octets))
  pub route : IfSome o (IsRoute s.filters (keys_of s.gates) (keys_of s.meters))
