-- Tables of a filter's reach, computed once for many questions about queues.
use Rattle.std.specs.Prelude.{◌≡◌, ◌≤◌, ℕ, zero, suc, Bool, false, ◌+◌, ◌-◌, ◌&&◌, List, [], ◌∷◌, ◌++◌, map, not, Option, Some, None, option_map, nat_eq, slice_index, slice_index_or, if◌then◌else◌}
use Rattle.std.specs.Option.{ForSome}
use Rattle.bridge_filter.specs.declared.FilterPlan.{FilterPlan}
use Rattle.bridge_filter.specs.Routes.{lesser_number}
use Rattle.bridge_config.specs.Model.{Plan}
use Rattle.bridge_config.specs.Rules.{find_port}
use Rattle.bridge_check.specs.declared.check_fault.CheckFault.{CheckFault}
use Rattle.bridge_check.specs.declared.check_fault.CheckFault.TheVariants as fault
use Rattle.bridge_check.specs.declared.reach.Reach.{Reach}
use Rattle.bridge_check.specs.declared.filter_tests.QueueTest.{QueueTest}
use Rattle.bridge_check.specs.declared.filter_tests.QueueTest.TheVariants as test
use Rattle.bridge_check.specs.declared.filter_tests.FilterCase.{FilterCase}
use Rattle.bridge_check.specs.declared.reaches.FilterReach.{FilterReach}
use Rattle.bridge_check.specs.Reach.{reaches_port, reaches_priority, reaches_queue, some_number_passes}
use Rattle.bridge_check.specs.Faults.{has_catch_all, other_in_queue, outsider_in_queue, is_in_group, queue_group, shared_phase_if_port, can_never_fit, fault_unless, first_fault_in_reach, wildcard_fault, max_sdu_fault, gate_fault, meter_fault, catch_all_fault, window_fault, size_fault}

-- The results of `test` for the numbers 0 to `n` - 1, in rising order: a table of flags by port or by priority.
abbrev pub test_results : ℕ → (ℕ → Bool) → List Bool
test_results zero test = []
test_results (suc n) test = test_results n test ++ test n ∷ []

-- The reach of filter `f`: a flag for each port from 1 to 16, and a flag for each priority from 0 to 7.
abbrev pub filter_reach : {A : Type 0} → Plan A → FilterPlan → Reach
filter_reach p f = record { ports = test_results 16 (λ i. reaches_port p f.handle (i + 1)); priorities = test_results 8 (reaches_priority p f) }

-- True if some priority whose flag is set has class `c`. The list `classes` gives the class of each priority.
abbrev pub has_class : List Bool → List ℕ → ℕ → Bool
has_class priorities classes c = some_number_passes 8 (λ k. slice_index_or priorities k false && nat_eq (slice_index classes k) c)

-- True if reach `r` has port `q` and a priority with class `c`. The list `classes` gives the class of each priority.
abbrev pub has_queue : Reach → ℕ → List ℕ → ℕ → Bool
has_queue r q classes c = slice_index_or r.ports (q - 1) false && has_class r.priorities classes c

-- Each filter's number and group with its reach, in list order.
abbrev pub all_reaches : {A : Type 0} → Plan A → List (ℕ × FilterPlan) → List FilterReach
all_reaches p filters = map (λ f. record { number = f.0; group = f.1.group; reach = filter_reach p f.1 }) filters

-- True if filter `r` may not share a queue with filter `n`. If filter `n` has a group, `r` is outside this group; otherwise `r` is another
-- filter than `n`.
abbrev pub is_outsider : Option ℕ → ℕ → FilterReach → Bool
is_outsider None n r = not (nat_eq r.number n)
is_outsider (Some k) n r = not (is_in_group k r.group)

-- The lowest number of a listed filter that can reach class `c` at port `q` but may not share this queue with filter `n`. `None` if no
-- listed filter does.
abbrev pub least_outsider : List FilterReach → Option ℕ → ℕ → ℕ → List ℕ → ℕ → Option ℕ
least_outsider [] group n q classes c = None
least_outsider (r ∷ rs) group n q classes c = if is_outsider group n r && has_queue r.reach q classes c then lesser_number (Some r.number) (least_outsider rs group n q classes c) else least_outsider rs group n q classes c

-- The lowest number of a filter that can reach class `c` at port `q`. With a group, only filters outside the group
-- count; otherwise all filters other than `n`.
--
-- `None` if no counted filter reaches the class.
abbrev pub other_or_outsider : {A : Type 0} → Plan A → Option ℕ → ℕ → ℕ → ℕ → Option ℕ
other_or_outsider p None n q c = other_in_queue p p.filters n q c
other_or_outsider p (Some k) n q c = outsider_in_queue p p.filters k q c

-- The fault of filter `f` if class `c` at port `q` fails the given test of queues: shared queue, shared window or size.
abbrev pub queue_test_fault : {A : Type 0} → Plan A → ℕ → FilterPlan → QueueTest → ℕ → ℕ → Option CheckFault
queue_test_fault p n f test.Shared q c = option_map (fault.QueueShared n q c) (other_or_outsider p (queue_group f) n q c)
queue_test_fault p n f test.Window q c = option_map (fault.WindowShared n q c) (shared_phase_if_port (find_port p.ports q) c)
queue_test_fault p n f test.Size q c = fault_unless (not (can_never_fit (find_port p.ports q) c f.max_sdu)) (fault.MaxSduNeverFits n q c)

-- The fault of filter `f` if class `c` at port `q` is reachable and fails test `t`.
abbrev pub reached_queue_fault : {A : Type 0} → Plan A → ℕ → FilterPlan → QueueTest → ℕ → ℕ → Option CheckFault
reached_queue_fault p n f t q c = if reaches_queue p f q c then queue_test_fault p n f t q c else None

-- The eight test results for filter `f` with number `n`, as the code computes them. The filter may share queues with the
-- given group.
abbrev pub case_tests : {A : Type 0} → Plan A → Option ℕ → ℕ → FilterPlan → List (Option CheckFault)
case_tests p group n f =
    wildcard_fault n f
    ∷ max_sdu_fault n f
    ∷ gate_fault p n f
    ∷ meter_fault p n f
    ∷ catch_all_fault p n
    ∷ first_fault_in_reach p f (λ q c. option_map (fault.QueueShared n q c) (other_or_outsider p group n q c))
    ∷ window_fault p n f
    ∷ size_fault p n f
    ∷ []

-- Holds if a case's tables are correct: every filter's reach, the filter's own reach, and the catch-all flag. A size
-- limit is at most 65,535 octets.
pub record IsCase {A : Type 0} (case : FilterCase A) : Type 0 where
  pub reaches : case.reaches.now ≡ all_reaches case.plan.now case.plan.now.filters
  pub reach : case.reach ≡ filter_reach case.plan.now case.filter
  pub catches : case.catches ≡ has_catch_all case.plan.now.filters
  pub sdu : ForSome case.filter.max_sdu (λ n. n ≤ 65535)
