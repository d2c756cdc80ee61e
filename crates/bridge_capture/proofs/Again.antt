-- A written capture is read as the frames that were written.
use Rattle.std.proofs.Common.{◌≡◌, ℕ, ◌+◌, ◌*◌, ◌/◌, ◌%◌, ◌^◌, ◌≤◌, ◌<◌, List, [], ◌∷◌, ◌++◌, length, Some, Result, Ok, refl, sym, ap, ◌∙◌, subst, append_assoc, arith}
use Rattle.std.specs.List.{flat_map}
use Rattle.std.proofs.lemmas.Nat.{from_le_bytes-to_le_bytes_4}
use Rattle.bridge_capture.specs.declared.record.TheConstants.{SNAP_LENGTH}
use Rattle.bridge_capture.specs.declared.format.CaptureFormat.{CaptureFormat}
use Rattle.bridge_capture.specs.declared.capture_fault.CaptureFault.{CaptureFault}
use Rattle.std.proofs.lemmas.Bool.{le-ltb}
use Rattle.std.proofs.lemmas.List.{length-append}
use Rattle.bridge_capture.specs.Grammar.{CapturedFrame, RecordPosition, Record, ReadsFrames, ReadsBody, AtEnd, first_position, next_position, front_item, header_format, record_time, captured_length, original_length}
use Rattle.bridge_capture.specs.WrittenCapture.{written_format, written_header, written_words, written_frame, written_text, AreWritable}
use Rattle.bridge_capture.specs.Laws.{WrittenIsRead}
use Rattle.bridge_capture.proofs.Fronts.{fault_none, whole_record}

pub words_length : (t c o : ℕ) → length (written_words t c o) ≡ 16
unfolding written_words
words_length t c o = refl

pub words_time : (t c o : ℕ) → t < 4 * 10 ^ 18 → record_time written_format (written_words t c o) ≡ t
unfolding written_words
words_time t c o lt =
    let a = from_le_bytes-to_le_bytes_4 (t / 10 ^ 9) (omega arith) in
    let b = from_le_bytes-to_le_bytes_4 (t % 10 ^ 9) (omega arith) in
    rw (a, b) (omega arith)

pub words_captured : (t c o : ℕ) → c < 2 ^ 32 → captured_length written_format (written_words t c o) ≡ c
unfolding written_words
words_captured t c o lt = from_le_bytes-to_le_bytes_4 c lt

pub words_original : (t c o : ℕ) → o < 2 ^ 32 → original_length written_format (written_words t c o) ≡ o
unfolding written_words
words_original t c o lt = from_le_bytes-to_le_bytes_4 o lt

-- Reads one written record.
one_again : (place : RecordPosition) (item : CapturedFrame) (more : List ℕ) → place.number ≤ 1000000 → place.earliest ≤ item.time → item.time < 4 * 10 ^ 18 → length item.octets ≤ SNAP_LENGTH → length item.octets ≤ item.len → item.len < 2 ^ 32
    → front_item written_format place (written_frame item ++ more) ≡ Record item more
one_again place item more few on early small held fits =
    let w = written_words item.time (length item.octets) item.len in
    let t = words_time item.time (length item.octets) item.len early in
    let c = words_captured item.time (length item.octets) item.len (omega arith) in
    let o = words_original item.time (length item.octets) item.len fits in
    let none = fault_none place (record_time written_format w) (captured_length written_format w) (original_length written_format w) (omega arith) (omega arith) (omega arith) (omega arith) in
    let found = whole_record (Some (written_frame item ++ more)) (Some (item.octets ++ more)) (Some more) written_format place w item.octets (words_length item.time (length item.octets) item.len) few none (append_assoc w item.octets more) refl (sym c) in
    let same : found.0 ≡ more = let e : Some more ≡ Some found.0 = found.2 in cc in
    found.1 ∙ ap (λ (z : ℕ). Record (record { time = z; len = original_length written_format w; octets = item.octets }) found.0) t ∙ ap (λ (z : ℕ). Record (record { time = item.time; len = z; octets = item.octets }) found.0) o ∙ ap (λ (z : List ℕ). Record item z) same

items_again : (place : RecordPosition) (items : List CapturedFrame) → AreWritable place.number place.earliest items → ReadsFrames written_format place (flat_map written_frame items) items AtEnd
unfolding front_item
items_again place [] fits = refl
items_again place (item ∷ items) fits = (flat_map written_frame items, one_again place item (flat_map written_frame items) fits.0 fits.1 fits.2 fits.3 fits.4 fits.5, items_again (next_position place item) items fits.6)

header_again : (more : List ℕ) → header_format (written_header ++ more) ≡ Ok written_format
unfolding header_format
header_again more = let long : 24 ≤ length (written_header ++ more) = omega (arith, length-append written_header more) in rw (le-ltb (length (written_header ++ more)) 24 long) refl

pub again : WrittenIsRead
again items fits = subst (λ (r : Result CaptureFormat CaptureFault). ReadsBody r (written_text items) items AtEnd) (sym (header_again (flat_map written_frame items))) (items_again first_position items fits)

-- Length of a written record.
pub record_length : (c : CapturedFrame) → length (written_frame c) ≡ 16 + length c.octets
unfolding written_words
record_length c = omega arith
