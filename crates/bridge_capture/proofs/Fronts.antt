-- Item at the front of the octets, from the octets that were read.
use Rattle.std.proofs.Common.{◌≡◌, ℕ, ◌+◌, ◌-◌, ◌≤◌, ◌<◌, false, List, [], ◌++◌, length, take, drop, slice_range, Option, Some, None, refl, sym, ap, ◌∙◌, subst, nat_eq, arith, append_assoc, length-take-le}
use Rattle.bridge_capture.specs.Reading.{IsFaultOfFront, CutsOctets}
use Rattle.std.specs.Prelude.{IfSome}
use Rattle.std.specs.Io.KnownBytes.{Consumes, IsAtEnd}
use Rattle.std.proofs.lemmas.Bool.{le-ltb, lt-ltb, le-leb, lt-leb}
use Rattle.std.proofs.lemmas.List.{length-append, length-drop, append-nil, drop_at, take_at}
use lib.Seq.{drop-append-le, take-append-le, take-add}
use Rattle.std.proofs.Math.Seq.{drop-append-add}
use Rattle.bridge_capture.specs.declared.format.CaptureFormat.{CaptureFormat}
use Rattle.bridge_capture.specs.declared.capture_fault.CaptureFault.{CaptureFault}
use Rattle.bridge_capture.specs.declared.capture_fault.CaptureFault.TheVariants as faults
use Rattle.bridge_capture.specs.declared.capture_fault.CaptureFault.TheVariants.{RecordCut, RecordTooLarge, LengthsCross, TimeTooLate, TimeBack, TooManyRecords}
use Rattle.bridge_capture.specs.Grammar.{RecordPosition, FrontItem, Nothing, Fault, Record, octet_range, record_time, captured_length, original_length, record_header_fault, record_after_header, front_item}

-- A range within the front is a range of the whole.
pub octets_front : (from count : ℕ) (w r : List ℕ) → from + count ≤ length w → octet_range from count (w ++ r) ≡ octet_range from count w
octets_front from count w r le = rw (drop-append-le from w r (omega arith)) (take-append-le count (drop from w) r (omega (arith, length-drop from w)))

pub time_front : (form : CaptureFormat) (w r : List ℕ) → length w ≡ 16 → record_time form (w ++ r) ≡ record_time form w
time_front form w r len = rw (octets_front 0 4 w r (omega arith), octets_front 4 4 w r (omega arith)) refl

pub captured_front : (form : CaptureFormat) (w r : List ℕ) → length w ≡ 16 → captured_length form (w ++ r) ≡ captured_length form w
captured_front form w r len = rw (octets_front 8 4 w r (omega arith)) refl

pub original_front : (form : CaptureFormat) (w r : List ℕ) → length w ≡ 16 → original_length form (w ++ r) ≡ original_length form w
original_front form w r len = rw (octets_front 12 4 w r (omega arith)) refl

pub not_zero : (n : ℕ) → 0 < n → nat_eq n 0 ≡ false
not_zero n h = grind arith

-- At the end, no octets remain.
pub ended : (old new : Option (List ℕ)) (form : CaptureFormat) (place : RecordPosition) (w : List ℕ) → w ≡ [] → Consumes old new w → IsAtEnd new → IfSome old (λ bytes. front_item form place bytes ≡ Nothing)
unfolding front_item
ended None new form place w empty p e = tt
ended (Some bytes) None form place w empty p e = absurd p
ended (Some bytes) (Some rest) form place w empty p e = let none : bytes ≡ [] = p ∙ ap (λ l. l ++ rest) empty ∙ e in rw none refl

-- An octet after the last allowed record is the fault `TooManyRecords`.
pub too_many : (old new : Option (List ℕ)) (form : CaptureFormat) (place : RecordPosition) (w : List ℕ) → 0 < length w → 1000000 < place.number → Consumes old new w → IfSome old (λ bytes. front_item form place bytes ≡ Fault TooManyRecords)
unfolding front_item
too_many None new form place w some many p = tt
too_many (Some bytes) None form place w some many p = absurd p
too_many (Some bytes) (Some rest) form place w some many p =
    let long : 0 < length bytes = omega (arith, ap length p, length-append w rest) in
    rw (not_zero (length bytes) long, lt-ltb 1000000 place.number many) refl

-- Fewer octets than a record's header are the fault `RecordCut`.
pub cut_words : (old new : Option (List ℕ)) (form : CaptureFormat) (place : RecordPosition) (w : List ℕ) → 0 < length w → length w < 16 → place.number ≤ 1000000 → Consumes old new w → IsAtEnd new → IfSome old (λ bytes. front_item form place bytes ≡ Fault (RecordCut place.number))
unfolding front_item
cut_words None new form place w some short few p e = tt
cut_words (Some bytes) None form place w some short few p e = absurd p
cut_words (Some bytes) (Some rest) form place w some short few p e =
    let is : bytes ≡ w = p ∙ ap (λ l. w ++ l) e ∙ append-nil w in
    let long : 0 < length bytes = omega (arith, ap length is) in
    let brief : length bytes < 16 = omega (arith, ap length is) in
    rw (not_zero (length bytes) long, le-ltb 1000000 place.number few, lt-ltb (length bytes) 16 brief) refl

-- The header of the record is complete.
front_with_words : (form : CaptureFormat) (place : RecordPosition) (w r : List ℕ) → length w ≡ 16 → place.number ≤ 1000000
    → front_item form place (w ++ r) ≡ record_after_header form place (w ++ r) (record_header_fault place (record_time form w) (captured_length form w) (original_length form w))
unfolding front_item
front_with_words form place w r len few =
    let all : length (w ++ r) ≡ length w + length r = length-append w r in
    let long : 0 < length (w ++ r) = omega arith in
    let enough : 16 ≤ length (w ++ r) = omega arith in
    rw (not_zero (length (w ++ r)) long, le-ltb 1000000 place.number few, le-ltb (length (w ++ r)) 16 enough, time_front form w r len, captured_front form w r len, original_front form w r len) refl

-- The header of the record has a fault.
pub refused_words : (old new : Option (List ℕ)) (form : CaptureFormat) (place : RecordPosition) (w : List ℕ) (fault : CaptureFault) → length w ≡ 16 → place.number ≤ 1000000
    → record_header_fault place (record_time form w) (captured_length form w) (original_length form w) ≡ Some fault → Consumes old new w → IfSome old (λ bytes. front_item form place bytes ≡ Fault fault)
refused_words None new form place w fault len few h p = tt
refused_words (Some bytes) None form place w fault len few h p = absurd p
refused_words (Some bytes) (Some rest) form place w fault len few h p = ap (front_item form place) p ∙ front_with_words form place w rest len few ∙ ap (record_after_header form place (w ++ rest)) h

-- Fewer octets than the header states are the fault `RecordCut`.
pub cut_octets : (old mid new : Option (List ℕ)) (form : CaptureFormat) (place : RecordPosition) (w o : List ℕ) → length w ≡ 16 → place.number ≤ 1000000 → record_header_fault place (record_time form w) (captured_length form w) (original_length form w) ≡ None
    → Consumes old mid w → Consumes mid new o → IsAtEnd new → length o < captured_length form w → IfSome old (λ bytes. front_item form place bytes ≡ Fault (RecordCut place.number))
cut_octets None mid new form place w o len few h p q e short = tt
cut_octets (Some bytes) None new form place w o len few h p q e short = absurd p
cut_octets (Some bytes) (Some rest) None form place w o len few h p q e short = absurd q
cut_octets (Some bytes) (Some rest) (Some last) form place w o len few h p q e short =
    let is : rest ≡ o = q ∙ ap (λ l. o ++ l) e ∙ append-nil o in
    let brief : length (w ++ rest) < 16 + captured_length form (w ++ rest) = omega (arith, ap length is, length-append w rest, captured_front form w rest len) in
    ap (front_item form place) p ∙ front_with_words form place w rest len few ∙ ap (record_after_header form place (w ++ rest)) h ∙ rw (lt-ltb (length (w ++ rest)) (16 + captured_length form (w ++ rest)) brief) refl

-- The record is complete.
pub whole_record : (old mid new : Option (List ℕ)) (form : CaptureFormat) (place : RecordPosition) (w o : List ℕ) → length w ≡ 16 → place.number ≤ 1000000 → record_header_fault place (record_time form w) (captured_length form w) (original_length form w) ≡ None
    → Consumes old mid w → Consumes mid new o → length o ≡ captured_length form w
    → IfSome old (λ bytes. (more : List ℕ) × (front_item form place bytes ≡ Record (record { time = record_time form w; len = original_length form w; octets = o }) more) × (new ≡ Some more))
whole_record None mid new form place w o len few h p q all = tt
whole_record (Some bytes) None new form place w o len few h p q all = absurd p
whole_record (Some bytes) (Some rest) None form place w o len few h p q all = absurd q
whole_record (Some bytes) (Some rest) (Some last) form place w o len few h p q all =
    let text = w ++ rest in
    let n : captured_length form text ≡ length o = captured_front form w rest len ∙ sym all in
    let enough : 16 + captured_length form text ≤ length text = omega (arith, ap length q, length-append w rest, length-append o last) in
    let octets : octet_range 16 (captured_length form text) text ≡ o = rw (n, drop_at w rest 16 len, q) (take_at o last (length o) refl) in
    let after : drop (16 + captured_length form text) text ≡ last = rw n (ap (λ (k : ℕ). drop (k + length o) text) (sym len) ∙ drop-append-add w rest (length o) ∙ ap (drop (length o)) q ∙ drop_at o last (length o) refl) in
    (last, ap (front_item form place) p ∙ front_with_words form place w rest len few ∙ ap (record_after_header form place text) h ∙ rw (le-ltb (length text) (16 + captured_length form text) enough, octets, after, time_front form w rest len, original_front form w rest len) refl, refl)

-- The record is complete, and its header and octets were taken together.
pub whole_at_once : (old new : Option (List ℕ)) (form : CaptureFormat) (place : RecordPosition) (lent : List ℕ) (end : ℕ) → place.number ≤ 1000000 → end ≤ length lent → end ≡ 16 + captured_length form (take 16 lent)
    → record_header_fault place (record_time form (take 16 lent)) (captured_length form (take 16 lent)) (original_length form (take 16 lent)) ≡ None → Consumes old new (take end lent)
    → IfSome old (λ bytes. (more : List ℕ) × (front_item form place bytes ≡ Record (record { time = record_time form (take 16 lent); len = original_length form (take 16 lent); octets = slice_range lent 16 end }) more) × (new ≡ Some more))
whole_at_once None new form place lent end few within is h p = tt
whole_at_once (Some bytes) None form place lent end few within is h p = absurd p
whole_at_once (Some bytes) (Some rest) form place lent end few within is h p =
    let w = take 16 lent in
    let o = slice_range lent 16 end in
    let n = captured_length form w in
    let len : length w ≡ 16 = length-take-le 16 lent (omega arith) in
    let least : end - 16 ≡ n = omega arith in
    let all : length o ≡ n = length-take-le (end - 16) (drop 16 lent) (omega (arith, length-drop 16 lent)) ∙ least in
    let parts : take end lent ≡ w ++ o = ap (λ k. take k lent) {y = 16 + (end - 16)} (omega arith) ∙ take-add 16 (end - 16) lent in
    whole_record (Some bytes) (Some (o ++ rest)) (Some rest) form place w o len few h (p ∙ ap (λ l. l ++ rest) parts ∙ append_assoc w o rest) refl all

-- Faults of a record's header, one by one.

pub fault_large : (place : RecordPosition) (t c o : ℕ) → 262144 < c → record_header_fault place t c o ≡ Some (RecordTooLarge place.number)
fault_large place t c o large = rw (lt-ltb 262144 c large) refl

pub fault_cross : (place : RecordPosition) (t c o : ℕ) → c ≤ 262144 → o < c → record_header_fault place t c o ≡ Some (LengthsCross place.number)
fault_cross place t c o small cross = rw (le-ltb 262144 c small, lt-ltb o c cross) refl

pub fault_late : (place : RecordPosition) (t c o : ℕ) → c ≤ 262144 → c ≤ o → 4000000000000000000 ≤ t → record_header_fault place t c o ≡ Some (TimeTooLate place.number)
fault_late place t c o small held late = rw (le-ltb 262144 c small, le-ltb o c held, le-leb 4000000000000000000 t late) refl

pub fault_back : (place : RecordPosition) (t c o : ℕ) → c ≤ 262144 → c ≤ o → t < 4000000000000000000 → t < place.earliest → record_header_fault place t c o ≡ Some (TimeBack place.number)
fault_back place t c o small held early back = rw (le-ltb 262144 c small, le-ltb o c held, lt-leb 4000000000000000000 t early, lt-ltb t place.earliest back) refl

pub fault_none : (place : RecordPosition) (t c o : ℕ) → c ≤ 262144 → c ≤ o → t < 4000000000000000000 → place.earliest ≤ t → record_header_fault place t c o ≡ None
fault_none place t c o small held early on = rw (le-ltb 262144 c small, le-ltb o c held, lt-leb 4000000000000000000 t early, le-ltb t place.earliest on) refl

-- After a read fault or lack of memory, nothing is known of the front.
pub unsaid : (old : Option (List ℕ)) → IfSome old (λ octets. Unit {0})
unsaid None = tt
unsaid (Some octets) = tt

pub if_some : {P Q : List ℕ → Type 0} (old : Option (List ℕ)) → ((octets : List ℕ) → P octets → Q octets) → IfSome old P → IfSome old Q
if_some None f h = tt
if_some (Some octets) f h = f octets h

-- A fault at the front is the fault of the result.
fails_so : (fault : CaptureFault) (front : FrontItem) → front ≡ Fault fault → IsFaultOfFront fault front
fails_so faults.Read front e = tt
fails_so faults.NoMemory front e = tt
fails_so fault front e = e

-- The result has the fault of the record's header.
pub words_refused : (old new : Option (List ℕ)) (form : CaptureFormat) (place : RecordPosition) (w : List ℕ) (fault : CaptureFault) → length w ≡ 16 → place.number ≤ 1000000
    → record_header_fault place (record_time form w) (captured_length form w) (original_length form w) ≡ Some fault → Consumes old new w → IfSome old (λ octets. IsFaultOfFront fault (front_item form place octets))
words_refused old new form place w fault len few h p =
    if_some {P = λ octets. front_item form place octets ≡ Fault fault} old (λ octets e. fails_so fault (front_item form place octets) e) (refused_words old new form place w fault len few h p)

-- The result has the fault of the record's octets.
pub octets_refused : (old mid new : Option (List ℕ)) (form : CaptureFormat) (place : RecordPosition) (w : List ℕ) (fault : CaptureFault) → length w ≡ 16 → place.number ≤ 1000000
    → record_header_fault place (record_time form w) (captured_length form w) (original_length form w) ≡ None → Consumes old mid w → CutsOctets place.number (captured_length form w) mid new fault
    → IfSome old (λ octets. IsFaultOfFront fault (front_item form place octets))
octets_refused old mid new form place w faults.Read len few h p cut = unsaid old
octets_refused old mid new form place w faults.NoMemory len few h p cut = unsaid old
octets_refused old mid new form place w fault len few h p cut =
    subst (λ (f : CaptureFault). IfSome old (λ octets. front_item form place octets ≡ Fault f)) (sym cut.0) (cut_octets old mid new form place w cut.1.1.0 len few h p cut.1.1.2 cut.1.0 cut.1.1.1)

-- Replaces the fields of a record's header by equal fields.
pub head_is : (place : RecordPosition) (t c o t' c' o' : ℕ) (r : Option CaptureFault) → t ≡ t' → c ≡ c' → o ≡ o' → record_header_fault place t c o ≡ r → record_header_fault place t' c' o' ≡ r
head_is place t c o t' c' o' r et ec eo h = rw (← et, ← ec, ← eo) h
