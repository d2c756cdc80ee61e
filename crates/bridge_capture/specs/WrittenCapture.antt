-- Octets of a capture file that the program writes.
use Rattle.std.specs.Prelude.{ℕ, ◌/◌, ◌%◌, ◌^◌, ◌<◌, ◌≤◌, ◌+◌, List, [], ◌∷◌, ◌++◌, length}
use Rattle.std.specs.Int.{w32, to_le_bytes}
use Rattle.std.specs.List.{flat_map}
use Rattle.bridge_limits.specs.declared.TheConstants.{END_OF_TIME}
use Rattle.bridge_capture.specs.declared.record.TheConstants.{MAX_RECORDS, SNAP_LENGTH}
use Rattle.bridge_capture.specs.declared.format.CaptureFormat.{CaptureFormat}
use Rattle.bridge_capture.specs.declared.format.ByteOrder.TheVariants.{Little}
use Rattle.bridge_capture.specs.declared.format.FractionUnit.TheVariants.{Nano}
use Rattle.bridge_capture.specs.Grammar.{CapturedFrame}

-- Format of written captures: little-endian, with fractions in ns.
abbrev pub written_format : CaptureFormat
written_format = record { order = Little; unit = Nano }

-- The 24 octets of the written header: magic number (little-endian, ns), version 2.4, two zero words, snap length
-- 65,535 octets, link type 1 (Ethernet).
abbrev pub written_header : List ℕ
written_header = 0x4d ∷ 0x3c ∷ 0xb2 ∷ 0xa1 ∷ 2 ∷ 0 ∷ 4 ∷ 0 ∷ 0 ∷ 0 ∷ 0 ∷ 0 ∷ 0 ∷ 0 ∷ 0 ∷ 0 ∷ 0xff ∷ 0xff ∷ 0 ∷ 0 ∷ 1 ∷ 0 ∷ 0 ∷ 0 ∷ []

-- Header of a written packet record: seconds and nanoseconds of the time `done`, captured length, original length
-- `len`, each a little-endian 32-bit number.
unfoldable pub written_words : ℕ → ℕ → ℕ → List ℕ
written_words done captured len = to_le_bytes w32 (done / 10 ^ 9) ++ to_le_bytes w32 (done % 10 ^ 9) ++ to_le_bytes w32 captured ++ to_le_bytes w32 len

-- Octets of one packet record: a header of 16 octets with time `done` in ns and original length `len`, then the
-- captured `octets`.
abbrev pub written_record : ℕ → ℕ → List ℕ → List ℕ
written_record done len octets = written_words done (length octets) len ++ octets

-- Octets of the packet record for the frame `captured`: its time, original length and captured octets.
abbrev pub written_frame : CapturedFrame → List ℕ
written_frame captured = written_record captured.time captured.len captured.octets

-- File contents for a capture of the list `frames`: the header, then one packet record for each frame, in list order.
abbrev pub written_text : List CapturedFrame → List ℕ
written_text frames = written_header ++ flat_map written_frame frames

-- Holds if from this record number and time on, the frames can be written and read again. Their number, times and
-- lengths are within the limits.
abbrev pub AreWritable : ℕ → ℕ → List CapturedFrame → Type 0
AreWritable number earliest [] = Unit {0}
AreWritable number earliest (captured ∷ more) = (number ≤ MAX_RECORDS) × (earliest ≤ captured.time) × (captured.time < END_OF_TIME) × (length captured.octets ≤ SNAP_LENGTH) × (length captured.octets ≤ captured.len) × (captured.len < 2 ^ 32) × AreWritable (number + 1) captured.time more
