-- File contents are a capture in exactly one way: one list of frames and one ending.
use Rattle.std.proofs.Common.{◌≡◌, ℕ, zero, suc, ◌+◌, ◌<◌, ◌≤◌, Bool, true, false, if◌then◌else◌, List, [], ◌∷◌, length, drop, nat_lt, ◌==◌, Option, Some, None, Result, Ok, Err, refl, sym, ap, ◌∙◌, subst, arith}
use Rattle.std.proofs.lemmas.Bool.{ltb-false}
use Rattle.std.proofs.lemmas.List.{length-drop}
use Rattle.bridge_capture.specs.declared.format.CaptureFormat.{CaptureFormat}
use Rattle.bridge_capture.specs.declared.capture_fault.CaptureFault.{CaptureFault}
use Rattle.bridge_capture.specs.declared.capture_fault.CaptureFault.TheVariants.{RecordCut, TooManyRecords}
use Rattle.bridge_capture.specs.Grammar.{CapturedFrame, RecordPosition, FrontItem, Nothing, Fault, Record, CaptureEnding, AtEnd, AtFault, IsEnding, ReadsFrames, ReadsBody, next_position, first_position, front_item, header_format, record_after_header, record_header_fault, record_time, captured_length, original_length}
use Rattle.bridge_capture.specs.Laws.{ReadsOneWay}

-- At most one way.

ends_unique : (front : FrontItem) (e f : CaptureEnding) → IsEnding front e → IsEnding front f → e ≡ f
ends_unique Nothing e f p q = p ∙ sym q
ends_unique (Fault fault) e f p q = p ∙ sym q
ends_unique (Record captured rest) e f p q = absurd p

goes_on : (front : FrontItem) (e : CaptureEnding) (captured : CapturedFrame) (rest : List ℕ) → IsEnding front e → front ≡ Record captured rest → ⊥
goes_on front e captured rest p is = subst (λ (f : FrontItem). IsEnding f e) is p

reads_unique : (form : CaptureFormat) (place : RecordPosition) (octets : List ℕ) (xs ys : List CapturedFrame) (e f : CaptureEnding) → ReadsFrames form place octets xs e → ReadsFrames form place octets ys f → (xs ≡ ys) × (e ≡ f)
reads_unique form place octets [] [] e f p q = (refl, ends_unique (front_item form place octets) e f p q)
reads_unique form place octets [] (y ∷ ys) e f p q = absurd (goes_on (front_item form place octets) e y q.0 p q.1)
reads_unique form place octets (x ∷ xs) [] e f p q = absurd (goes_on (front_item form place octets) f x p.0 q p.1)
reads_unique form place octets (x ∷ xs) (y ∷ ys) e f p q =
    let same : Record y q.0 ≡ Record x p.0 = sym q.1 ∙ p.1 in
    let same_frame : y ≡ x = cc in
    let same_rest : q.0 ≡ p.0 = cc in
    let there = subst (λ (l : List ℕ). ReadsFrames form (next_position place x) l ys f) same_rest (subst (λ (z : CapturedFrame). ReadsFrames form (next_position place z) q.0 ys f) same_frame q.2) in
    let more = reads_unique form (next_position place x) p.0 xs ys e f p.2 there in
    let tails : xs ≡ ys = more.0 in
    (cc, more.1)

after_unique : (header : Result CaptureFormat CaptureFault) (text : List ℕ) (xs ys : List CapturedFrame) (e f : CaptureEnding) → ReadsBody header text xs e → ReadsBody header text ys f → (xs ≡ ys) × (e ≡ f)
after_unique (Ok form) text xs ys e f p q = reads_unique form first_position (drop 24 text) xs ys e f p q
after_unique (Err fault) text xs ys e f p q = (p.0 ∙ sym q.0, p.1 ∙ sym q.1)

-- At least one way.

-- If the result isn't the first branch, the test failed and the result is the second branch.
if_not : {A : Type 0} (b : Bool) (x y z : A) → (x ≡ z → ⊥) → (if b then x else y) ≡ z → (b ≡ false) × (y ≡ z)
if_not true x y z differs e = absurd (differs e)
if_not false x y z differs e = (refl, e)

nothing_differs : (captured : CapturedFrame) (rest : List ℕ) → Nothing ≡ Record captured rest → ⊥
nothing_differs captured rest e = cc

fault_differs : (fault : CaptureFault) (captured : CapturedFrame) (rest : List ℕ) → Fault fault ≡ Record captured rest → ⊥
fault_differs fault captured rest e = cc

rest_is : (form : CaptureFormat) (place : RecordPosition) (octets : List ℕ) (fault : Option CaptureFault) (captured : CapturedFrame) (rest : List ℕ)
    → record_after_header form place octets fault ≡ Record captured rest → rest ≡ drop (16 + captured_length form octets) octets
rest_is form place octets (Some fault) captured rest e = absurd cc
rest_is form place octets None captured rest e =
    let whole = (if_not (nat_lt (length octets) (16 + captured_length form octets)) _ _ (Record captured rest) (fault_differs _ captured rest) e).1 in
    cc

-- Reading a record shortens the remaining octets.
shorter : (form : CaptureFormat) (place : RecordPosition) (octets : List ℕ) (captured : CapturedFrame) (rest : List ℕ) → front_item form place octets ≡ Record captured rest → length rest < length octets
unfolding front_item
shorter form place octets captured rest e =
    let here : FrontItem = Record captured rest in
    let whole : FrontItem = record_after_header form place octets (record_header_fault place (record_time form octets) (captured_length form octets) (original_length form octets)) in
    let cut : FrontItem = if nat_lt (length octets) 16 then Fault (RecordCut place.number) else whole in
    let some = if_not (length octets == 0) Nothing (if nat_lt 1000000 place.number then Fault TooManyRecords else cut) here (nothing_differs captured rest) e in
    let few = if_not (nat_lt 1000000 place.number) (Fault TooManyRecords) cut here (fault_differs TooManyRecords captured rest) some.1 in
    let words = if_not (nat_lt (length octets) 16) (Fault (RecordCut place.number)) whole here (fault_differs (RecordCut place.number) captured rest) few.1 in
    let long : 16 ≤ length octets = ltb-false (length octets) 16 words.0 in
    let is : rest ≡ drop (16 + captured_length form octets) octets = rest_is form place octets _ captured rest words.1 in
    omega (arith, ap length is, length-drop (16 + captured_length form octets) octets)

abbrev Found : CaptureFormat → RecordPosition → List ℕ → Type 0
Found form place octets = (frames : List CapturedFrame) × (ending : CaptureEnding) × ReadsFrames form place octets frames ending

found_at : (form : CaptureFormat) (place : RecordPosition) (octets : List ℕ) (front : FrontItem) → front_item form place octets ≡ front
    → ((captured : CapturedFrame) (rest : List ℕ) → front_item form place octets ≡ Record captured rest → Found form (next_position place captured) rest) → Found form place octets
found_at form place octets Nothing e next = ([], AtEnd, subst (λ (f : FrontItem). IsEnding f AtEnd) (sym e) refl)
found_at form place octets (Fault fault) e next = ([], AtFault fault, subst (λ (f : FrontItem). IsEnding f (AtFault fault)) (sym e) refl)
found_at form place octets (Record captured rest) e next = let more = next captured rest e in (captured ∷ more.0, more.1, (rest, e, more.2))

found : (bound : ℕ) (form : CaptureFormat) (place : RecordPosition) (octets : List ℕ) → length octets < bound → Found form place octets
found zero form place octets short = absurd (omega arith)
found (suc n) form place octets short =
    found_at form place octets (front_item form place octets) refl (λ captured rest e. found n form (next_position place captured) rest (omega (arith, shorter form place octets captured rest e)))

after_found : (header : Result CaptureFormat CaptureFault) (text : List ℕ) → (frames : List CapturedFrame) × (ending : CaptureEnding) × ReadsBody header text frames ending
after_found (Ok form) text = found (length (drop 24 text) + 1) form first_position (drop 24 text) (omega arith)
after_found (Err fault) text = ([], AtFault fault, (refl, refl))

pub one_way : (text : List ℕ) → ReadsOneWay text
one_way text = (after_found (header_format text) text, λ xs ys e f p q. after_unique (header_format text) text xs ys e f p q)
