-- Faults of a plan that doesn't isolate a protected or grouped filter: eight tests in order, over ports and classes in rising order.
use Rattle.std.specs.Prelude.{ℕ, zero, suc, ◌+◌, Bool, true, false, not, ◌&&◌, ◌||◌, List, [], ◌∷◌, Option, Some, None, filter_map, flat_map, is_some, option_map, nat_eq, nat_le, nat_lt, if◌then◌else◌}
use Rattle.std.specs.List.{list_any, list_all}
use Rattle.bridge_filter.specs.declared.FilterPlan.{FilterPlan}
use Rattle.bridge_filter.specs.Routes.{lesser_number}
use Rattle.bridge_config.specs.declared.ports.PortPlan.{PortPlan}
use Rattle.bridge_config.specs.Model.{Plan}
use Rattle.bridge_config.specs.Rules.{find_port}
use Rattle.bridge_check.specs.declared.check_fault.CheckFault.{CheckFault}
use Rattle.bridge_check.specs.declared.check_fault.CheckFault.TheVariants as fault
use Rattle.bridge_check.specs.Reach.{reaches_queue}
use Rattle.bridge_check.specs.Windows.{port_shared_phase, can_ever_fit}

-- The fault `e` if the test result is false; `None` if it is true.
abbrev pub fault_unless : Bool → CheckFault → Option CheckFault
fault_unless true e = None
fault_unless false e = Some e

-- True if two optional flow meter numbers are both present and equal; false if one of them or both are absent.
abbrev pub is_same_meter : Option ℕ → Option ℕ → Bool
is_same_meter (Some m) (Some n) = nat_eq m n
is_same_meter _ _ = false

-- True if a filter in the list whose number differs from `n` uses the stream gate of filter `f`.
abbrev pub is_gate_shared : List (ℕ × FilterPlan) → ℕ → FilterPlan → Bool
is_gate_shared filters n f = list_any (λ g. not (nat_eq g.0 n) && nat_eq g.1.gate f.gate) filters

-- True if a filter in the list whose number differs from `n` uses the flow meter of `f`; false if `f` has no meter.
abbrev pub is_meter_shared : List (ℕ × FilterPlan) → ℕ → FilterPlan → Bool
is_meter_shared filters n f = list_any (λ g. not (nat_eq g.0 n) && is_same_meter g.1.meter f.meter) filters

-- True if every filter number in the list is at most `n`.
abbrev pub is_greatest_number : List (ℕ × FilterPlan) → ℕ → Bool
is_greatest_number filters n = list_all (λ g. nat_le g.0 n) filters

-- True if a filter with the greatest number in the list names neither a stream handle nor a priority. This filter
-- matches every frame.
abbrev pub has_catch_all : List (ℕ × FilterPlan) → Bool
has_catch_all filters = list_any (λ g. is_greatest_number filters g.0 && not (is_some g.1.handle) && not (is_some g.1.priority)) filters

-- The lowest number, other than `n`, of a filter in the list that can reach class `c` at port `q`. `None` if no other
-- filter can.
abbrev pub other_in_queue : {A : Type 0} → Plan A → List (ℕ × FilterPlan) → ℕ → ℕ → ℕ → Option ℕ
other_in_queue p [] n q c = None
other_in_queue p (g ∷ gs) n q c = if not (nat_eq g.0 n) && reaches_queue p g.1 q c then lesser_number (Some g.0) (other_in_queue p gs n q c) else other_in_queue p gs n q c

-- True if the optional group number of a filter is present and equal to `k`; false for a filter without a group.
abbrev pub is_in_group : ℕ → Option ℕ → Bool
is_in_group k None = false
is_in_group k (Some g) = nat_eq g k

-- The lowest number of a filter in the list, outside group `k`, that can reach class `c` at port `q`. `None` if no
-- filter outside the group can.
abbrev pub outsider_in_queue : {A : Type 0} → Plan A → List (ℕ × FilterPlan) → ℕ → ℕ → ℕ → Option ℕ
outsider_in_queue p [] k q c = None
outsider_in_queue p (g ∷ gs) k q c = if not (is_in_group k g.1.group) && reaches_queue p g.1 q c then lesser_number (Some g.0) (outsider_in_queue p gs k q c) else outsider_in_queue p gs k q c

-- The first optional value if it is present, otherwise the second one, which may be `None`.
abbrev pub first_option : {X : Type 0} → Option X → Option X → Option X
first_option None b = b
first_option (Some x) b = Some x

-- The first value that function `tell` returns for the numbers 0 to `n` - 1, in rising order; `None` if every call
-- returns `None`.
unfoldable pub first_among_numbers : {X : Type 0} → ℕ → (ℕ → Option X) → Option X
first_among_numbers zero tell = None
first_among_numbers (suc n) tell = first_option (first_among_numbers n tell) (tell n)

-- The first fault that `tell port class` returns for a reachable queue of filter `f`. `None` if every queue passes.
-- Ports rise from 1 to 16, and classes from 0 to 7 at each port.
abbrev pub first_fault_in_reach : {A : Type 0} → Plan A → FilterPlan → (ℕ → ℕ → Option CheckFault) → Option CheckFault
first_fault_in_reach p f tell = first_among_numbers 16 (λ i. first_among_numbers 8 (λ c. if reaches_queue p f (i + 1) c then tell (i + 1) c else None))

-- Offset in ns from the cycle's start at which the port first opens class `c` together with another class. `None` if
-- class `c` never opens together with another, or if the port is missing.
--
-- A port without a list gives 0.
abbrev pub shared_phase_if_port : {A : Type 0} → Option (PortPlan A) → ℕ → Option ℕ
shared_phase_if_port None c = None
shared_phase_if_port (Some port) c = port_shared_phase port.list c

-- True if some list of the port lacks a window of class `c` for the longest frame; false without a port or size limit.
abbrev pub can_never_fit : {A : Type 0} → Option (PortPlan A) → ℕ → Option ℕ → Bool
can_never_fit (Some port) c (Some sdu) = not (can_ever_fit port c sdu)
can_never_fit _ c _ = false

-- THE EIGHT TESTS

-- Test 1 returns the fault ProtectedWildcard if filter `f` names no stream handle; otherwise `None`. A filter without a
-- handle matches every stream.
abbrev pub wildcard_fault : ℕ → FilterPlan → Option CheckFault
wildcard_fault n f = fault_unless (is_some f.handle) (fault.ProtectedWildcard n)

-- Test 2 returns the fault NoMaxSdu if filter `f` has no limit (`max_sdu`) for its service data units (SDU); otherwise
-- `None`.
abbrev pub max_sdu_fault : ℕ → FilterPlan → Option CheckFault
max_sdu_fault n f = fault_unless (is_some f.max_sdu) (fault.NoMaxSdu n)

-- Test 3 returns the fault GateShared if a filter with another number than `n` uses the stream gate of filter `f`; otherwise `None`.
abbrev pub gate_fault : {A : Type 0} → Plan A → ℕ → FilterPlan → Option CheckFault
gate_fault p n f = fault_unless (not (is_gate_shared p.filters n f)) (fault.GateShared n)

-- Test 4 returns the fault MeterShared if a filter with another number than `n` uses the flow meter of filter `f`; otherwise `None`. A
-- filter without a meter passes.
abbrev pub meter_fault : {A : Type 0} → Plan A → ℕ → FilterPlan → Option CheckFault
meter_fault p n f = fault_unless (not (is_meter_shared p.filters n f)) (fault.MeterShared n)

-- Test 5 returns the fault NoCatchAll for filter `n` if plan `p` has no catch-all filter; otherwise `None`.
abbrev pub catch_all_fault : {A : Type 0} → Plan A → ℕ → Option CheckFault
catch_all_fault p n = fault_unless (has_catch_all p.filters) (fault.NoCatchAll n)

-- Test 6 returns QueueShared for the first reachable queue of filter `f` that is also reachable for another filter;
-- otherwise `None`. Unprotected filters count too.
abbrev pub queue_fault : {A : Type 0} → Plan A → ℕ → FilterPlan → Option CheckFault
queue_fault p n f = first_fault_in_reach p f (λ q c. option_map (fault.QueueShared n q c) (other_in_queue p p.filters n q c))

-- Test 7 returns WindowShared for the first reachable queue of filter `f` whose class opens together with another
-- class; otherwise `None`. A port without a gate control list opens all classes together.
abbrev pub window_fault : {A : Type 0} → Plan A → ℕ → FilterPlan → Option CheckFault
window_fault p n f = first_fault_in_reach p f (λ q c. option_map (fault.WindowShared n q c) (shared_phase_if_port (find_port p.ports q) c))

-- Test 8 returns MaxSduNeverFits for the first reachable queue that lacks a window for the longest frame of filter `f`;
-- otherwise `None`. Each gate control list of the port needs a window that fits.
abbrev pub size_fault : {A : Type 0} → Plan A → ℕ → FilterPlan → Option CheckFault
size_fault p n f = first_fault_in_reach p f (λ q c. fault_unless (not (can_never_fit (find_port p.ports q) c f.max_sdu)) (fault.MaxSduNeverFits n q c))

-- The first fault in a list of test results; `None` if every result is `None`, which means a passed test.
abbrev pub first_test_fault : List (Option CheckFault) → Option CheckFault
first_test_fault [] = None
first_test_fault (e ∷ es) = first_option e (first_test_fault es)

-- The eight test results for filter `f` with number `n`, in the order of the tests: a fault, or `None` for a passed
-- test.
abbrev pub filter_tests : {A : Type 0} → Plan A → ℕ → FilterPlan → List (Option CheckFault)
filter_tests p n f =
    wildcard_fault n f
    ∷ max_sdu_fault n f
    ∷ gate_fault p n f
    ∷ meter_fault p n f
    ∷ catch_all_fault p n
    ∷ queue_fault p n f
    ∷ window_fault p n f
    ∷ size_fault p n f
    ∷ []

-- The fault of the first of eight tests that filter `f` with number `n` fails in plan `p`; `None` if it passes these tests.
abbrev pub filter_fault : {A : Type 0} → Plan A → ℕ → FilterPlan → Option CheckFault
filter_fault p n f = first_test_fault (filter_tests p n f)

-- GROUPED FILTERS

-- Test 6 of a grouped filter returns QueueShared for the first queue that filter `f` and a filter outside group `k` can reach. Otherwise it
-- returns `None`.
abbrev pub outsider_fault : {A : Type 0} → Plan A → ℕ → ℕ → FilterPlan → Option CheckFault
outsider_fault p k n f = first_fault_in_reach p f (λ q c. option_map (fault.QueueShared n q c) (outsider_in_queue p p.filters k q c))

-- The eight test results for filter `f` with number `n` in group `k`, in the order of the tests. Only test 6 differs
-- from the tests of a protected filter.
abbrev pub member_tests : {A : Type 0} → Plan A → ℕ → ℕ → FilterPlan → List (Option CheckFault)
member_tests p k n f =
    wildcard_fault n f
    ∷ max_sdu_fault n f
    ∷ gate_fault p n f
    ∷ meter_fault p n f
    ∷ catch_all_fault p n
    ∷ outsider_fault p k n f
    ∷ window_fault p n f
    ∷ size_fault p n f
    ∷ []

-- The fault of the first of eight tests that filter `f` with number `n` in group `k` fails; `None` if it passes these tests.
abbrev pub member_fault : {A : Type 0} → Plan A → ℕ → ℕ → FilterPlan → Option CheckFault
member_fault p k n f = first_test_fault (member_tests p k n f)

-- ALL FILTERS

-- True if `check` tests the filter: it is protected, or it has a group.
abbrev pub is_tested : FilterPlan → Bool
is_tested f = f.protected || is_some f.group

-- The group whose filters may share queues with the filter; `None` for a protected filter or a filter without a group, which share none.
abbrev pub queue_group : FilterPlan → Option ℕ
queue_group f = if f.protected then None else f.group

-- The eight test results for filter `f` with number `n`; it may share queues with the given group, or with no other
-- filter (`None`).
abbrev pub tests_in_group : {A : Type 0} → Plan A → Option ℕ → ℕ → FilterPlan → List (Option CheckFault)
tests_in_group p None n f = filter_tests p n f
tests_in_group p (Some k) n f = member_tests p k n f

-- The test results for filter `f` with number `n`. If `f` is grouped and unprotected, they are the tests of a grouped filter; otherwise, of
-- a protected filter.
abbrev pub kind_tests : {A : Type 0} → Plan A → ℕ → FilterPlan → List (Option CheckFault)
kind_tests p n f = tests_in_group p (queue_group f) n f

-- The faults in a list of test results, in order. A passed test gives none.
abbrev pub failed_tests : List (Option CheckFault) → List CheckFault
failed_tests tests = filter_map (λ told. told) tests

-- The faults of a numbered filter, in test order; the empty list if the filter is neither protected nor grouped.
abbrev pub filter_failures : {A : Type 0} → Plan A → ℕ × FilterPlan → List CheckFault
filter_failures p f = if is_tested f.1 then failed_tests (kind_tests p f.0 f.1) else []

-- All faults of plan `p`: filters in plan order, tests in test order.
abbrev pub all_faults : {A : Type 0} → Plan A → List CheckFault
all_faults p = flat_map (filter_failures p) p.filters

-- The optional pair (filter number, fault) with the lower number; the first of both if the numbers are equal. `None` if both are absent.
abbrev pub lesser_fault : Option (ℕ × CheckFault) → Option (ℕ × CheckFault) → Option (ℕ × CheckFault)
lesser_fault None b = b
lesser_fault (Some a) None = Some a
lesser_fault (Some a) (Some b) = if nat_lt b.0 a.0 then Some b else Some a

-- The number of filter `f`, paired with its first fault; `None` if the filter is neither protected nor grouped, or
-- passes all eight tests.
abbrev pub numbered_fault : {A : Type 0} → Plan A → ℕ × FilterPlan → Option (ℕ × CheckFault)
numbered_fault p f = if is_tested f.1 then option_map (λ e. (f.0, e)) (first_test_fault (kind_tests p f.0 f.1)) else None

-- The number and the first fault of the lowest-numbered faulty filter in the list, as a pair; `None` if no filter is faulty.
abbrev pub least_fault : {A : Type 0} → Plan A → List (ℕ × FilterPlan) → Option (ℕ × CheckFault)
least_fault p [] = None
least_fault p (f ∷ fs) = lesser_fault (numbered_fault p f) (least_fault p fs)

-- The fault that `check` reports for plan `p`: the first fault of the lowest-numbered faulty filter, protected or grouped. `None` if no
-- filter is faulty.
abbrev pub first_fault : {A : Type 0} → Plan A → Option CheckFault
first_fault p = option_map (λ x. x.1) (least_fault p p.filters)
