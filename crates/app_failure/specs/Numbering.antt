-- Numbers of the faults of the hexadecimal text on standard input.
use Rattle.std.specs.Prelude.{ℕ}
use Rattle.app_failure.specs.declared.fault.TextFault.{TextFault}
use Rattle.app_failure.specs.declared.fault.TextFault.TheVariants.{NotHex, TooLong, Run}

-- The number of a fault of the hexadecimal text, 1 to 3, by which contracts compare faults.
abbrev pub fault_code : TextFault → ℕ
fault_code NotHex = 1
fault_code TooLong = 2
fault_code (Run fault) = 3
