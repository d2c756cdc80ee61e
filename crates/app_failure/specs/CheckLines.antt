-- Fault lines of plans that don't isolate a protected filter.
use Rattle.std.specs.Prelude.{ℕ, List, ◌++◌, codes, decimal}
use Rattle.bridge_check.specs.declared.check_fault.CheckFault.{CheckFault}
use Rattle.bridge_check.specs.declared.check_fault.CheckFault.TheVariants as check

-- The fault line for a test that concerns no queue: the fault's name and the filter's number.
abbrev pub filter_refused : List ℕ → ℕ → List ℕ
filter_refused name filter = codes "plan refused: " ++ (name ++ (codes " filter " ++ decimal filter))

-- The fault line for a test that concerns a reachable queue: the fault's name, filter, port and class.
abbrev pub queue_refused : List ℕ → ℕ → ℕ → ℕ → List ℕ
queue_refused name filter port class = codes "plan refused: " ++ (name ++ (codes " filter " ++ (decimal filter
    ++ (codes " port " ++ (decimal port ++ (codes " class " ++ decimal class))))))

-- The fault line for a reachable queue of filter `filter` that filter `other` can reach too.
abbrev pub queue_shared : ℕ → ℕ → ℕ → ℕ → List ℕ
queue_shared filter port class other = codes "plan refused: QueueShared filter " ++ (decimal filter
    ++ (codes " port " ++ (decimal port ++ (codes " class " ++ (decimal class ++ (codes " other " ++ decimal other))))))

-- The fault line for a window of a filter's queue that another class shares, first at the offset `at` in ns.
abbrev pub window_shared : ℕ → ℕ → ℕ → ℕ → List ℕ
window_shared filter port class at = codes "plan refused: WindowShared filter " ++ (decimal filter
    ++ (codes " port " ++ (decimal port ++ (codes " class " ++ (decimal class ++ (codes " at " ++ decimal at))))))

-- The fault line of a plan that doesn't isolate a protected filter.
abbrev pub check_fault_line : CheckFault → List ℕ
check_fault_line (check.ProtectedWildcard filter) = filter_refused (codes "ProtectedWildcard") filter
check_fault_line (check.NoMaxSdu filter) = filter_refused (codes "NoMaxSdu") filter
check_fault_line (check.GateShared filter) = filter_refused (codes "GateShared") filter
check_fault_line (check.MeterShared filter) = filter_refused (codes "MeterShared") filter
check_fault_line (check.NoCatchAll filter) = filter_refused (codes "NoCatchAll") filter
check_fault_line (check.QueueShared filter port class other) = queue_shared filter port class other
check_fault_line (check.WindowShared filter port class at) = window_shared filter port class at
check_fault_line (check.MaxSduNeverFits filter port class) = queue_refused (codes "MaxSduNeverFits") filter port class
check_fault_line check.NoMemory = codes "no memory"
