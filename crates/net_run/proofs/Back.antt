-- If a written capture is read to its end, the frames are the written frames.
use Rattle.std.proofs.Common.{◌≡◌, ℕ, ◌*◌, ◌/◌, ◌%◌, ◌^◌, ◌≤◌, ◌<◌, ◌⊎◌, inl, inr, List, [], ◌∷◌, ◌++◌, length, Some, Result, Ok, refl, sym, ap, ◌∙◌, subst, append_assoc, arith}
use Rattle.std.specs.Prelude.{All}
use Rattle.std.specs.List.{flat_map}
use Rattle.std.proofs.lemmas.Nat.{from_le_bytes-to_le_bytes_4}
use Rattle.std.proofs.lemmas.List.Elements.{All-cons, All-head, All-nil, All-tail}
use Rattle.std.proofs.lemmas.Bool.{cases_lt, le-ltb}
use Rattle.std.proofs.lemmas.List.{length-append}
use Rattle.bridge_limits.specs.declared.TheConstants.{END_OF_TIME}
use Rattle.bridge_capture.specs.declared.format.CaptureFormat.{CaptureFormat}
use Rattle.bridge_capture.specs.declared.capture_fault.CaptureFault.{CaptureFault}
use Rattle.bridge_capture.specs.declared.capture_fault.CaptureFault.TheVariants.{TooManyRecords, TimeTooLate, TimeBack}
use Rattle.bridge_capture.specs.Grammar.{CapturedFrame, RecordPosition, FrontItem, Fault, Record, ReadsFrames, ReadsBody, IsCapture, IsEnding, AtEnd, next_position, first_position, front_item, header_format, record_time, captured_length, original_length}
use Rattle.bridge_capture.specs.WrittenCapture.{written_format, written_header, written_words, written_frame, written_text}
use Rattle.bridge_capture.proofs.Fronts.{fault_back, fault_late, fault_none, refused_words, too_many, whole_record}
use Rattle.bridge_capture.proofs.Again.{words_captured, words_length, words_original}
use Rattle.bridge_core.specs.CaptureWriters.{FitsRecord}

words_time : (t c o : ℕ) → t < 2 ^ 32 * 10 ^ 9 → record_time written_format (written_words t c o) ≡ t
unfolding written_words
words_time t c o lt =
    let a = from_le_bytes-to_le_bytes_4 (t / 10 ^ 9) (omega (arith, lt)) in
    let b = from_le_bytes-to_le_bytes_4 (t % 10 ^ 9) (omega arith) in
    rw (a, b) (omega arith)

-- Reading a written record gives the frame, before the end of time, or a fault.
abbrev Finds : RecordPosition → CapturedFrame → List ℕ → Type 0
Finds place c more =
    ((front_item written_format place (written_frame c ++ more) ≡ Record c more) × (c.time < END_OF_TIME))
    ⊎ ((fault : CaptureFault) × (front_item written_format place (written_frame c ++ more) ≡ Fault fault))

finds : (place : RecordPosition) (c : CapturedFrame) (more : List ℕ) → FitsRecord c → Finds place c more
finds place c more fits =
    let n = length c.octets in
    let w = written_words c.time n c.len in
    let few = fits.captured in
    let within = fits.within in
    let t = words_time c.time n c.len fits.seconds in
    let k = words_captured c.time n c.len (omega (arith, few)) in
    let o = words_original c.time n c.len fits.original in
    let size = words_length c.time n c.len in
    let split = append_assoc w c.octets more in
    elim (cases_lt 1000000 place.number) [
      | inl many ↦ inr (TooManyRecords, too_many (Some (written_frame c ++ more)) (Some (c.octets ++ more)) written_format place w (omega (arith, size)) many split)
      | inr room ↦ elim (cases_lt (record_time written_format w) 4000000000000000000) [
        | inr late ↦ inr (
          TimeTooLate place.number,
          refused_words (Some (written_frame c ++ more)) (Some (c.octets ++ more)) written_format place w (TimeTooLate place.number) size room
              (fault_late place (record_time written_format w) (captured_length written_format w) (original_length written_format w) (omega (arith, k, few)) (omega (arith, k, o, within)) late) split,
        )
        | inl early ↦ elim (cases_lt (record_time written_format w) place.earliest) [
          | inl back ↦ inr (
            TimeBack place.number,
            refused_words (Some (written_frame c ++ more)) (Some (c.octets ++ more)) written_format place w (TimeBack place.number) size room
                (fault_back place (record_time written_format w) (captured_length written_format w) (original_length written_format w) (omega (arith, k, few)) (omega (arith, k, o, within)) early back) split,
          )
          | inr on ↦
              let none = fault_none place (record_time written_format w) (captured_length written_format w) (original_length written_format w) (omega (arith, k, few)) (omega (arith, k, o, within)) early on in
              let found = whole_record (Some (written_frame c ++ more)) (Some (c.octets ++ more)) (Some more) written_format place w c.octets size room none split refl (sym k) in
              let same : found.0 ≡ more = (let e : Some more ≡ Some found.0 = found.2 in cc) in
              inl (
                found.1 ∙ ap (λ (z : ℕ). Record (record { time = z; len = original_length written_format w; octets = c.octets }) found.0) t ∙ ap (λ (z : ℕ). Record (record { time = c.time; len = z; octets = c.octets }) found.0) o ∙ ap (λ (z : List ℕ). Record c z) same,
                omega (arith, t, early),
              )
        ]
      ]
    ]

-- A frame is before the end of time.
abbrev pub IsEarly : CapturedFrame → Type 0
IsEarly c = c.time < END_OF_TIME

same_frame : (c f : CapturedFrame) (more rest : List ℕ) → Record c more ≡ Record f rest → f ≡ c
same_frame c f more rest e = cc

same_rest : (c f : CapturedFrame) (more rest : List ℕ) → Record c more ≡ Record f rest → rest ≡ more
same_rest c f more rest e = cc

same_cons : (a b : CapturedFrame) (xs ys : List CapturedFrame) → a ≡ b → xs ≡ ys → a ∷ xs ≡ b ∷ ys
same_cons a b xs ys h k = cc

-- The records, one after another.
items_back : (place : RecordPosition) (cs fs : List CapturedFrame) → All FitsRecord cs → ReadsFrames written_format place (flat_map written_frame cs) fs AtEnd → (fs ≡ cs) × All IsEarly cs
unfolding front_item
items_back place [] [] fits reads = (refl, All-nil IsEarly)
items_back place [] (f ∷ fs) fits reads = absurd (cc)
items_back place (c ∷ cs) [] fits reads = elim (finds place c (flat_map written_frame cs) (All-head FitsRecord c cs fits)) [
  | inl found ↦ absurd (subst (λ (z : FrontItem). IsEnding z AtEnd) found.0 reads)
  | inr found ↦ let e = subst (λ (z : FrontItem). IsEnding z AtEnd) found.1 reads in absurd (cc)
]
items_back place (c ∷ cs) (f ∷ fs) fits reads = elim (finds place c (flat_map written_frame cs) (All-head FitsRecord c cs fits)) [
  | inl found ↦
      let same = sym found.0 ∙ reads.1 in
      let frame = same_frame c f (flat_map written_frame cs) reads.0 same in
      let rest = same_rest c f (flat_map written_frame cs) reads.0 same in
      let more = items_back (next_position place c) cs fs (All-tail FitsRecord c cs fits) (subst (λ (z : CapturedFrame). ReadsFrames written_format (next_position place z) (flat_map written_frame cs) fs AtEnd) frame (subst (λ (z : List ℕ). ReadsFrames written_format (next_position place f) z fs AtEnd) rest reads.2)) in
      (same_cons f c fs cs frame more.0, All-cons IsEarly c cs found.1 more.1)
  | inr found ↦ let e = sym found.1 ∙ reads.1 in absurd (cc)
]

header_back : (more : List ℕ) → header_format (written_header ++ more) ≡ Ok written_format
unfolding header_format
header_back more = let long : 24 ≤ length (written_header ++ more) = omega (arith, length-append written_header more) in rw (le-ltb (length (written_header ++ more)) 24 long) refl

-- The frames read from a written capture, to its end, are the written frames.
pub read_back : (cs fs : List CapturedFrame) → All FitsRecord cs → IsCapture (written_text cs) fs AtEnd → (fs ≡ cs) × All IsEarly cs
read_back cs fs fits reads = items_back first_position cs fs fits (subst (λ (r : Result CaptureFormat CaptureFault). ReadsBody r (written_text cs) fs AtEnd) (header_back (flat_map written_frame cs)) reads)
