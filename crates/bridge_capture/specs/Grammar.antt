-- Format of classic capture files (pcap): header, records, and their faults.
use Rattle.std.specs.Prelude.{◌≡◌, ℕ, ◌+◌, ◌*◌, ◌^◌, List, [], ◌∷◌, length, take, drop, Option, Some, None, Result, Ok, Err, nat_lt, nat_le, ◌==◌, if◌then◌else◌}
use Rattle.std.specs.Int.{w16, w32, from_be_bytes, from_le_bytes}
use Rattle.bridge_limits.specs.declared.TheConstants.{END_OF_TIME, MAX_CAPTURED_OCTETS}
use Rattle.bridge_capture.specs.declared.record.TheConstants.{MAX_RECORDS}
use Rattle.bridge_capture.specs.declared.format.ByteOrder.{ByteOrder}
use Rattle.bridge_capture.specs.declared.format.ByteOrder.TheVariants.{Little, Big}
use Rattle.bridge_capture.specs.declared.format.FractionUnit.{FractionUnit}
use Rattle.bridge_capture.specs.declared.format.FractionUnit.TheVariants.{Micro, Nano}
use Rattle.bridge_capture.specs.declared.format.CaptureFormat.{CaptureFormat}
use Rattle.bridge_capture.specs.declared.capture_fault.CaptureFault.{CaptureFault}
use Rattle.bridge_capture.specs.declared.capture_fault.CaptureFault.TheVariants.{BadMagic, BadVersion, BadLinkType, HeaderCut, RecordCut, LengthsCross, RecordTooLarge, TimeBack, TimeTooLate, TooManyRecords}

-- Words.

-- The `count` octets of the list from offset `from` on, counted from 0; fewer if the list ends earlier.
abbrev pub octet_range : ℕ → ℕ → List ℕ → List ℕ
octet_range from count octets = take count (drop from octets)

-- Unsigned 32-bit number in four octets, read as little-endian (Little) or big-endian (Big).
abbrev pub word32 : ByteOrder → List ℕ → ℕ
word32 Little octets = from_le_bytes w32 octets
word32 Big octets = from_be_bytes w32 octets

-- Unsigned 16-bit number in two octets, read as little-endian (Little) or big-endian (Big).
abbrev pub word16 : ByteOrder → List ℕ → ℕ
word16 Little octets = from_le_bytes w16 octets
word16 Big octets = from_be_bytes w16 octets

-- Length in ns of the unit of a time stamp's fraction: 1,000 ns for microseconds (Micro), 1 ns for nanoseconds (Nano).
abbrev pub nanoseconds : FractionUnit → ℕ
nanoseconds Micro = 1000
nanoseconds Nano = 1

-- Header.

-- Byte order and time unit for a magic number that was read as little-endian; `None` if the number is unknown.
abbrev pub format_by_magic : ℕ → Option CaptureFormat
format_by_magic magic =
    if magic == 0xA1B23C4D then Some (record { order = Little; unit = Nano })
    else if magic == 0xA1B2C3D4 then Some (record { order = Little; unit = Micro })
    else if magic == 0x4D3CB2A1 then Some (record { order = Big; unit = Nano })
    else if magic == 0xD4C3B2A1 then Some (record { order = Big; unit = Micro })
    else None

-- Format of a capture from its header, or the header's first fault. Faults are an unknown magic number (`None`), a version other than 2.4,
-- and a link type other than 1 (Ethernet).
abbrev pub format_after_magic : Option CaptureFormat → List ℕ → Result CaptureFormat CaptureFault
format_after_magic None octets = Err BadMagic
format_after_magic (Some form) octets =
    if (word16 form.order (octet_range 4 2 octets) == 2) then
    (if (word16 form.order (octet_range 6 2 octets) == 4) then
    (if (word32 form.order (octet_range 20 4 octets) == 1) then Ok form else Err BadLinkType)
    else Err BadVersion)
    else Err BadVersion

-- Format (byte order and time unit) that the 24 header octets of a capture show, or the first fault; HeaderCut if
-- octets are missing.
unfoldable pub header_format : List ℕ → Result CaptureFormat CaptureFault
header_format text =
    if nat_lt (length text) 24 then Err HeaderCut
    else format_after_magic (format_by_magic (from_le_bytes w32 (take 4 text))) text

-- Records.

-- Frame of a capture file: its time stamp in ns, its original length on the link in octets, and its captured octets.
pub record CapturedFrame : Type 0 where
  pub time : ℕ
  pub len : ℕ
  pub octets : List ℕ

-- Position of a packet record in a capture: the record's number, from 1, and the earliest time stamp in ns that the
-- record may have.
pub record RecordPosition : Type 0 where
  pub number : ℕ
  pub earliest : ℕ

-- Position of the first packet record: number 1, with 0 ns as its earliest time.
abbrev pub first_position : RecordPosition
first_position = record { number = 1; earliest = 0 }

-- Position of the packet record after the frame `captured`: the number rises by 1, and the frame's time is the earliest
-- allowed time.
abbrev pub next_position : RecordPosition → CapturedFrame → RecordPosition
next_position place captured = record { number = place.number + 1; earliest = captured.time }

-- Result of reading at one position: no more octets, a fault, or a captured frame with the octets after its record.
pub data FrontItem : Type 0 where
  Nothing : FrontItem
  Fault : CaptureFault → FrontItem
  Record : CapturedFrame → List ℕ → FrontItem

-- Time stamp of a packet record in ns: its first 32-bit word in seconds, plus its second word in the unit of `form`.
abbrev pub record_time : CaptureFormat → List ℕ → ℕ
record_time form octets = word32 form.order (octet_range 0 4 octets) * 10 ^ 9 + word32 form.order (octet_range 4 4 octets) * nanoseconds form.unit

-- Number of captured octets of a frame, which its packet record states in the third 32-bit word.
abbrev pub captured_length : CaptureFormat → List ℕ → ℕ
captured_length form octets = word32 form.order (octet_range 8 4 octets)

-- Original length of a frame on the link in octets, which its packet record states in the fourth 32-bit word.
abbrev pub original_length : CaptureFormat → List ℕ → ℕ
original_length form octets = word32 form.order (octet_range 12 4 octets)

-- First fault of a record's header: captured octets above MAX_CAPTURED_OCTETS or the original length, time at
-- END_OF_TIME or later, time before the previous record's time. `None` means a header without a fault.
abbrev pub record_header_fault : RecordPosition → ℕ → ℕ → ℕ → Option CaptureFault
record_header_fault place time captured original =
    if nat_lt MAX_CAPTURED_OCTETS captured then Some (RecordTooLarge place.number)
    else if nat_lt original captured then Some (LengthsCross place.number)
    else if nat_le END_OF_TIME time then Some (TimeTooLate place.number)
    else if nat_lt time place.earliest then Some (TimeBack place.number)
    else None

-- Result for a packet record: its header's fault if there is a fault, RecordCut if captured octets are missing,
-- otherwise the captured frame.
abbrev pub record_after_header : CaptureFormat → RecordPosition → List ℕ → Option CaptureFault → FrontItem
record_after_header form place octets (Some fault) = Fault fault
record_after_header form place octets None =
    if nat_lt (length octets) (16 + captured_length form octets) then Fault (RecordCut place.number)
    else Record (record { time = record_time form octets; len = original_length form octets; octets = octet_range 16 (captured_length form octets) octets }) (drop (16 + captured_length form octets) octets)

-- Result of reading at the position `place`: the end if no `octets` remain, otherwise the first fault or the next
-- captured frame.
unfoldable pub front_item : CaptureFormat → RecordPosition → List ℕ → FrontItem
front_item form place octets =
    if length octets == 0 then Nothing
    else if nat_lt MAX_RECORDS place.number then Fault TooManyRecords
    else if nat_lt (length octets) 16 then Fault (RecordCut place.number)
    else record_after_header form place octets (record_header_fault place (record_time form octets) (captured_length form octets) (original_length form octets))

-- Whole capture.

-- How the reading of a capture ends: after the last octet without a fault (AtEnd), or at the first fault (AtFault).
pub data CaptureEnding : Type 0 where
  AtEnd : CaptureEnding
  AtFault : CaptureFault → CaptureEnding

-- Holds if `ending` fits the item: AtEnd if no octets remain, or AtFault with the item's fault. For a frame, it doesn't hold.
abbrev pub IsEnding : FrontItem → CaptureEnding → Type 0
IsEnding Nothing ending = ending ≡ AtEnd
IsEnding (Fault fault) ending = ending ≡ AtFault fault
IsEnding (Record captured rest) ending = ⊥

-- Holds if the octets from the position `place` on hold exactly the captured frames of the list, in order, and then
-- reading stops with `ending`.
abbrev pub ReadsFrames : CaptureFormat → RecordPosition → List ℕ → List CapturedFrame → CaptureEnding → Type 0
ReadsFrames form place octets [] ending = IsEnding (front_item form place octets) ending
ReadsFrames form place octets (captured ∷ more) ending = (rest : List ℕ) × (front_item form place octets ≡ Record captured rest) × ReadsFrames form (next_position place captured) rest more ending

-- Holds if from position `place` on, the octets begin with these frames; position `next` and the octets `rest` follow.
abbrev pub ReadsPrefix : CaptureFormat → RecordPosition → List ℕ → List CapturedFrame → RecordPosition → List ℕ → Type 0
ReadsPrefix form place octets [] next rest = (next ≡ place) × (rest ≡ octets)
ReadsPrefix form place octets (captured ∷ more) next rest = (mid : List ℕ) × (front_item form place octets ≡ Record captured mid) × ReadsPrefix form (next_position place captured) mid more next rest

-- Holds if with a valid header, the records after it give `frames` and `ending`; with a header fault, `frames` is
-- empty and `ending` is the fault.
abbrev pub ReadsBody : Result CaptureFormat CaptureFault → List ℕ → List CapturedFrame → CaptureEnding → Type 0
ReadsBody (Ok form) text frames ending = ReadsFrames form first_position (drop 24 text) frames ending
ReadsBody (Err fault) text frames ending = (frames ≡ []) × (ending ≡ AtFault fault)

-- Holds if reading the file contents `text` as a capture gives exactly the frames `frames`, in list order, and then
-- the ending `ending`.
abbrev pub IsCapture : List ℕ → List CapturedFrame → CaptureEnding → Type 0
IsCapture text frames ending = ReadsBody (header_format text) text frames ending
