-- Numbers of the faults of a capture, by which contracts compare faults.
use Rattle.std.specs.Prelude.{ℕ}
use Rattle.bridge_capture.specs.declared.capture_fault.CaptureFault.{CaptureFault}
use Rattle.bridge_capture.specs.declared.capture_fault.CaptureFault.TheVariants.{BadMagic, BadVersion, BadLinkType, HeaderCut, RecordCut, LengthsCross, RecordTooLarge, TimeBack, TimeTooLate, TooManyRecords, Read, Write, NoMemory}

-- Number of a fault of a capture, in the order of the variants.
abbrev pub fault_code : CaptureFault → ℕ
fault_code BadMagic = 1
fault_code BadVersion = 2
fault_code BadLinkType = 3
fault_code HeaderCut = 4
fault_code (RecordCut place) = 5
fault_code (LengthsCross place) = 6
fault_code (RecordTooLarge place) = 7
fault_code (TimeBack place) = 8
fault_code (TimeTooLate place) = 9
fault_code TooManyRecords = 10
fault_code Read = 11
fault_code Write = 12
fault_code NoMemory = 13
