-- Captures whose frames are later by the delay of a link.
use Rattle.std.specs.Prelude.{◌≡◌, ℕ, zero, suc, ◌+◌, ◌-◌, ◌*◌, ◌/◌, ◌%◌, ◌^◌, min, nat_lt, List, [], ◌++◌, length, take, drop, Option, None, Some, if◌then◌else◌}
use Rattle.std.specs.Int.{w32, from_le_bytes, to_le_bytes}
use Rattle.bridge_limits.specs.declared.TheConstants.{END_OF_TIME}
use Rattle.bridge_capture.specs.Grammar.{CapturedFrame}
use Rattle.bridge_capture.specs.WrittenCapture.{written_frame}
use Rattle.bridge_core.specs.CaptureWriters.{FitsRecord}

-- The time `delay` ns after `t`, but at most the end of time.
abbrev pub delayed_time : ℕ → ℕ → ℕ
delayed_time t delay = min (t + delay) END_OF_TIME

-- The frame `c` with its time delayed by `delay` ns, but at most to the end of time.
abbrev pub delayed : ℕ → CapturedFrame → CapturedFrame
delayed delay c = record { time = delayed_time c.time delay; len = c.len; octets = c.octets }

-- Holds if `word` is the little-endian word of the four octets from index `at` on.
abbrev pub IsWord : List ℕ → ℕ → ℕ → Type 0
IsWord octets at word = word ≡ from_le_bytes w32 (take 4 (drop at octets))

-- The eight octets of time `t` in a record: seconds, then nanoseconds, each a little-endian word of four octets.
unfoldable pub time_words : ℕ → List ℕ
time_words t = to_le_bytes w32 (t / 10 ^ 9) ++ to_le_bytes w32 (t % 10 ^ 9)

-- Holds if, for `octets` that begin with a frame's record, `new` is `old` and this record, delayed by `delay` ns. Then `rest` has the
-- octets after the record.
abbrev pub AppendsDelayedRecord : ℕ → List ℕ → List ℕ → List ℕ → Option (List ℕ) → Type 0
AppendsDelayedRecord delay octets old new rest =
    (c : CapturedFrame) (more : List ℕ) → FitsRecord c → octets ≡ written_frame c ++ more
    → (rest ≡ Some more) × (new ≡ old ++ written_frame (delayed delay c))

-- The little-endian word of the four octets from index `at` on.
abbrev pub word_at : List ℕ → ℕ → ℕ
word_at octets at = from_le_bytes w32 (take 4 (drop at octets))

-- The first record of `octets`, with `captured` octets of the frame, and with the record's time delayed by `delay` ns.
-- All octets after the record's time are unchanged.
abbrev pub delayed_octets : ℕ → ℕ → List ℕ → List ℕ
delayed_octets delay captured octets = time_words (delayed_time (word_at octets 0 * 1000000000 + word_at octets 4) delay) ++ take (16 + captured - 8) (drop 8 octets)

-- The first record of `octets`, delayed by `delay` ns, and the octets after it; `None` if no whole record is left.
abbrev pub delayed_record : ℕ → List ℕ → Option (List ℕ × List ℕ)
delayed_record delay octets =
    if nat_lt (length octets) 16 then None else
    if nat_lt (length octets) (16 + word_at octets 8) then None else
    Some (delayed_octets delay (word_at octets 8) octets, drop (16 + word_at octets 8) octets)

-- The found record, and after it the result of `more` for the octets after the record; empty if no record was found.
abbrev pub record_and_more : (List ℕ → List ℕ) → Option (List ℕ × List ℕ) → List ℕ
record_and_more more None = []
record_and_more more (Some found) = found.0 ++ more found.1

-- The records of `octets`, delayed by `delay` ns, but at most `most` records.
abbrev pub delayed_records : ℕ → ℕ → List ℕ → List ℕ
delayed_records zero delay octets = []
delayed_records (suc most) delay octets = record_and_more (delayed_records most delay) (delayed_record delay octets)

-- The capture `text` with each record delayed by `delay` ns; empty if `text` has no whole header.
abbrev pub delayed_text : ℕ → List ℕ → List ℕ
delayed_text delay text = if nat_lt (length text) 24 then [] else take 24 text ++ delayed_records (length (drop 24 text)) delay (drop 24 text)

-- Holds if `new` is `old` with the first record of `octets`, delayed by `delay` ns, and `rest` has the octets after it. Without a whole
-- record, `rest` is `None`.
abbrev pub IsRecordAppended : ℕ → List ℕ → List ℕ → List ℕ → Option (List ℕ) → Type 0
IsRecordAppended delay octets old new None = delayed_record delay octets ≡ None
IsRecordAppended delay octets old new (Some rest) = (first : List ℕ) × (delayed_record delay octets ≡ Some (first, rest)) × (new ≡ old ++ first)
