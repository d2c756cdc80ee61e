-- Numbers of the faults of a run, by which contracts compare faults.
use Rattle.std.specs.Prelude.{ℕ}
use Rattle.bridge_capture.specs.declared.fault.RunFault.{RunFault}
use Rattle.bridge_capture.specs.declared.fault.RunFault.TheVariants.{Capture, Write, NoMemory}

-- Number of a fault of a run, in the order of the variants.
abbrev pub fault_code : RunFault → ℕ
fault_code (Capture port fault) = 1
fault_code (Write port) = 2
fault_code NoMemory = 3
