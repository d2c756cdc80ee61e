-- Numbers of the faults of a check, in the order of the tests, and the filters that fail.
use Rattle.std.specs.Prelude.{ℕ, Option, Some, None}
use Rattle.bridge_check.specs.declared.check_fault.CheckFault.{CheckFault}
use Rattle.bridge_check.specs.declared.check_fault.CheckFault.TheVariants as fault

-- The number of a fault, 1 to 9, by its variant only.
abbrev pub fault_code : CheckFault → ℕ
fault_code (fault.ProtectedWildcard filter) = 1
fault_code (fault.NoMaxSdu filter) = 2
fault_code (fault.GateShared filter) = 3
fault_code (fault.MeterShared filter) = 4
fault_code (fault.NoCatchAll filter) = 5
fault_code (fault.QueueShared filter port class other) = 6
fault_code (fault.WindowShared filter port class at) = 7
fault_code (fault.MaxSduNeverFits filter port class) = 8
fault_code fault.NoMemory = 9

-- The number of the filter that fails the test; `None` if memory ran out.
abbrev pub fault_filter : CheckFault → Option ℕ
fault_filter (fault.ProtectedWildcard filter) = Some filter
fault_filter (fault.NoMaxSdu filter) = Some filter
fault_filter (fault.GateShared filter) = Some filter
fault_filter (fault.MeterShared filter) = Some filter
fault_filter (fault.NoCatchAll filter) = Some filter
fault_filter (fault.QueueShared filter port class other) = Some filter
fault_filter (fault.WindowShared filter port class at) = Some filter
fault_filter (fault.MaxSduNeverFits filter port class) = Some filter
fault_filter fault.NoMemory = None
