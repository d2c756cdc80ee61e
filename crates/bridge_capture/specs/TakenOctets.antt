-- Octets taken from a source when a capture is refused.
use Rattle.std.specs.Prelude.{◌≡◌, ℕ, ◌+◌, ◌<◌, ◌⊎◌, List, [], length, Option, None}
use Rattle.std.specs.Io.KnownBytes.{Consumes}
use Rattle.bridge_capture.specs.declared.record.TheConstants.{MAX_RECORDS}
use Rattle.bridge_capture.specs.declared.format.CaptureFormat.{CaptureFormat}
use Rattle.bridge_capture.specs.declared.capture_fault.CaptureFault.{CaptureFault}
use Rattle.bridge_capture.specs.declared.capture_fault.CaptureFault.TheVariants as faults
use Rattle.bridge_capture.specs.Grammar.{RecordPosition, record_time, captured_length, original_length, record_header_fault}

-- Holds if exactly `count` octets were taken from a source: `old` are its octets before, `new` after.
abbrev pub TakesExactly : ℕ → Option (List ℕ) → Option (List ℕ) → Type 0
TakesExactly count old new = (octets : List ℕ) × (length octets ≡ count) × Consumes old new octets

-- Holds if fewer than `count` octets were taken from a source: `old` are its octets before, `new` after.
abbrev pub TakesFewer : ℕ → Option (List ℕ) → Option (List ℕ) → Type 0
TakesFewer count old new = (octets : List ℕ) × (length octets < count) × Consumes old new octets

-- Holds if, after a refused header, 24 octets were taken; fewer if the source failed or ended.
abbrev pub TakesRefusedHeader : Option (List ℕ) → Option (List ℕ) → CaptureFault → Type 0
TakesRefusedHeader old new faults.Read = TakesFewer 24 old new
TakesRefusedHeader old new faults.HeaderCut = TakesFewer 24 old new
TakesRefusedHeader old new fault = TakesExactly 24 old new

-- Holds if the record at this position of a capture has a header without fault.
abbrev pub HasSoundHeader : CaptureFormat → RecordPosition → List ℕ → Type 0
HasSoundHeader form place octets = record_header_fault place (record_time form octets) (captured_length form octets) (original_length form octets) ≡ None

-- Holds if the octets are an incomplete record: an incomplete header, or a sound header without all its octets.
abbrev pub IsCutRecord : CaptureFormat → RecordPosition → List ℕ → Type 0
IsCutRecord form place octets = (length octets < 16) ⊎ (HasSoundHeader form place octets × (length octets < 16 + captured_length form octets))

-- Holds if a failing source can have given these octets of a record: they are incomplete, and none after the last
-- allowed record.
abbrev pub IsReadPart : CaptureFormat → RecordPosition → List ℕ → Type 0
IsReadPart form place octets = (MAX_RECORDS < place.number → octets ≡ []) × IsCutRecord form place octets

-- Holds if, after a refused record, its header was taken; after too many records, one octet. If the source failed or
-- ended, an incomplete record was taken.
abbrev pub TakesRefusedRecord : CaptureFormat → RecordPosition → Option (List ℕ) → Option (List ℕ) → CaptureFault → Type 0
TakesRefusedRecord form place old new faults.Read = (octets : List ℕ) × IsReadPart form place octets × Consumes old new octets
TakesRefusedRecord form place old new (faults.RecordCut number) = (octets : List ℕ) × IsCutRecord form place octets × Consumes old new octets
TakesRefusedRecord form place old new faults.TooManyRecords = TakesExactly 1 old new
TakesRefusedRecord form place old new faults.NoMemory = (octets : List ℕ) × (length octets ≡ 16) × HasSoundHeader form place octets × Consumes old new octets
TakesRefusedRecord form place old new fault = TakesExactly 16 old new
