-- Numbers of a plan's faults, by which contracts compare faults.
use Rattle.std.specs.Prelude.{ℕ}
use Rattle.bridge_schema.specs.declared.plan_fault.PlanFault.{PlanFault}
use Rattle.bridge_schema.specs.declared.plan_fault.PlanFault.TheVariants as fault

-- Number of a plan's fault, in the order of the variants.
abbrev pub fault_code : PlanFault → ℕ
fault_code fault.Syntax = 1
fault_code fault.TooLong = 2
fault_code (fault.UnknownKey section index) = 3
fault_code (fault.NotAList section) = 4
fault_code (fault.Missing place) = 5
fault_code (fault.WrongKind place) = 6
fault_code (fault.OutOfRange place) = 7
fault_code (fault.Duplicate section index) = 8
fault_code (fault.Unresolved place) = 9
fault_code (fault.TooMany section) = 10
fault_code (fault.BadList section index list) = 11
fault_code fault.NoPorts = 12
fault_code fault.NoMemory = 13
