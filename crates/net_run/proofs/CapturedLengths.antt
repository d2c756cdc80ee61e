-- A frame read from a capture has at most as many captured octets as its length on the link.
use Rattle.std.proofs.Common.{◌≡◌, ℕ, zero, suc, ◌+◌, ◌<◌, ◌≤◌, Bool, true, false, if◌then◌else◌, List, [], ◌∷◌, ◌++◌, length, take, drop, nat_eq, nat_lt, ◌==◌, Option, Some, None, Result, Ok, Err, refl, sym, ap, ◌∙◌, subst, arith, inl, inr}
use Rattle.std.proofs.lemmas.Bool.{ltb-false}
use Rattle.bridge_limits.specs.Members.{IsMember}
use Rattle.bridge_limits.proofs.Cases.{by_bool}
use Rattle.bridge_limits.proofs.Members.{in_push}
use Rattle.bridge_capture.specs.declared.format.CaptureFormat.{CaptureFormat}
use Rattle.bridge_capture.specs.declared.capture_fault.CaptureFault.{CaptureFault}
use Rattle.bridge_capture.specs.declared.capture_fault.CaptureFault.TheVariants.{LengthsCross, RecordCut, RecordTooLarge, TimeTooLate, TimeBack, TooManyRecords}
use Rattle.bridge_capture.specs.Grammar.{AtEnd, CapturedFrame, CaptureEnding, Fault, FrontItem, Nothing, RecordPosition, ReadsFrames, ReadsBody, Record, IsCapture, next_position, captured_length, first_position, front_item, record_header_fault, header_format, octet_range, original_length, record_after_header, record_time}
use Rattle.bridge_config.specs.declared.command.Command.{Command}
use Rattle.bridge_config.specs.declared.ports.PortPlan.{PortPlan}
use Rattle.bridge_config.specs.Model.{Plan}
use Rattle.bridge_config.specs.Rules.{find_port}
use Rattle.bridge_semantics.specs.Merge.{Input, IsMerged, command_as_input, commands_of, capture_inputs, input_streams}
use Rattle.net_model.proofs.Members.{in_inputs, rank_in}
use Rattle.net_run.specs.Rounds.{IsWithinLength}

-- ONE RECORD

if_not : {A : Type 0} (b : Bool) (x y z : A) → (x ≡ z → ⊥) → (if b then x else y) ≡ z → (b ≡ false) × (y ≡ z)
if_not true x y z differs e = absurd (differs e)
if_not false x y z differs e = (refl, e)

nothing_differs : (c : CapturedFrame) (rest : List ℕ) → Nothing ≡ Record c rest → ⊥
nothing_differs c rest e = cc

fault_differs : (f : CaptureFault) (c : CapturedFrame) (rest : List ℕ) → Fault f ≡ Record c rest → ⊥
fault_differs f c rest e = cc

some_differs : (f : CaptureFault) → Some f ≡ None → ⊥
some_differs f e = cc

take_short : (n : ℕ) (xs : List ℕ) → length (take n xs) ≤ n
take_short zero xs = omega arith
take_short (suc n) [] = omega arith
take_short (suc n) (x ∷ xs) = let more = take_short n xs in omega (arith, more)

in_record : (form : CaptureFormat) (place : RecordPosition) (octets : List ℕ) (fault : Option CaptureFault) (c : CapturedFrame) (rest : List ℕ)
    → record_header_fault place (record_time form octets) (captured_length form octets) (original_length form octets) ≡ fault
    → record_after_header form place octets fault ≡ Record c rest → length c.octets ≤ c.len
in_record form place octets (Some f) c rest head e = absurd (fault_differs f c rest e)
in_record form place octets None c rest head e =
    let captured = captured_length form octets in
    let original = original_length form octets in
    let first = if_not (nat_lt 262144 captured) (Some (RecordTooLarge place.number)) _ None (some_differs (RecordTooLarge place.number)) head in
    let second = if_not (nat_lt original captured) (Some (LengthsCross place.number)) _ None (some_differs (LengthsCross place.number)) first.1 in
    let few : captured ≤ original = ltb-false original captured second.0 in
    let found : CapturedFrame = record { time = record_time form octets; len = original; octets = octet_range 16 captured octets } in
    let whole : Record found (drop (16 + captured) octets) ≡ Record c rest = (if_not (nat_lt (length octets) (16 + captured)) (Fault (RecordCut place.number)) _ (Record c rest) (fault_differs (RecordCut place.number) c rest) e).1 in
    let same : found ≡ c = cc in
    let short = take_short captured (drop 16 octets) in
    let here : length (take captured (drop 16 octets)) ≤ original = omega (arith, short, few) in
    subst (λ (z : CapturedFrame). length z.octets ≤ z.len) same here

in_front : (form : CaptureFormat) (place : RecordPosition) (octets : List ℕ) (c : CapturedFrame) (rest : List ℕ) → front_item form place octets ≡ Record c rest → length c.octets ≤ c.len
unfolding front_item
in_front form place octets c rest e =
    let here : FrontItem = Record c rest in
    let whole : FrontItem = record_after_header form place octets (record_header_fault place (record_time form octets) (captured_length form octets) (original_length form octets)) in
    let cut : FrontItem = if nat_lt (length octets) 16 then Fault (RecordCut place.number) else whole in
    let some = if_not (length octets == 0) Nothing (if nat_lt 1000000 place.number then Fault TooManyRecords else cut) here (nothing_differs c rest) e in
    let few = if_not (nat_lt 1000000 place.number) (Fault TooManyRecords) cut here (fault_differs TooManyRecords c rest) some.1 in
    let words = if_not (nat_lt (length octets) 16) (Fault (RecordCut place.number)) whole here (fault_differs (RecordCut place.number) c rest) few.1 in
    in_record form place octets _ c rest refl words.1

-- ALL RECORDS

abbrev AreShort : List CapturedFrame → Type 0
AreShort cs = (c : CapturedFrame) → IsMember c cs → length c.octets ≤ c.len

in_reads : (form : CaptureFormat) (place : RecordPosition) (octets : List ℕ) (cs : List CapturedFrame) (e : CaptureEnding) → ReadsFrames form place octets cs e → AreShort cs
in_reads form place octets [] e reads c i = absurd i
in_reads form place octets (x ∷ xs) e (rest, is, more) c (inl same) = subst (λ (z : CapturedFrame). length z.octets ≤ z.len) (sym same) (in_front form place octets x rest is)
in_reads form place octets (x ∷ xs) e (rest, is, more) c (inr i) = in_reads form (next_position place x) rest xs e more c i

in_after : (header : Result CaptureFormat CaptureFault) (text : List ℕ) (cs : List CapturedFrame) (e : CaptureEnding) → ReadsBody header text cs e → AreShort cs
in_after (Ok form) text cs e reads c i = in_reads form first_position (drop 24 text) cs e reads c i
in_after (Err f) text cs e (none, is) c i = absurd (subst (λ (l : List CapturedFrame). IsMember c l) none i)

in_text : (text : List ℕ) (cs : List CapturedFrame) (e : CaptureEnding) → IsCapture text cs e → AreShort cs
in_text text cs e reads = in_after (header_format text) text cs e reads

-- EVENTS

of_commands : (cs : List Command) (x : Input) → IsMember x (commands_of cs) → IsWithinLength x.event
of_commands [] x i = absurd i
of_commands (c ∷ cs) x i = elim (in_push x (command_as_input c) (commands_of cs) i) [
  | inl old ↦ of_commands cs x old
  | inr new ↦ subst (λ (y : Input). IsWithinLength y.event) (sym new) tt
]

-- Each received frame has at most as many captured octets as its length, if the captures of all ports are read to their end.
pub each_within : {A : Type 0} (p : Plan A) (commands : List Command) (frames : ℕ → List CapturedFrame) (inputs : List Input)
    → ((q : ℕ) (out : PortPlan A) → find_port p.ports q ≡ Some out → (text : List ℕ) × IsCapture text (frames q) AtEnd)
    → ((q : ℕ) → find_port p.ports q ≡ None → frames q ≡ [])
    → IsMerged (input_streams (commands_of commands) frames) inputs → (x : Input) → IsMember x inputs → IsWithinLength x.event
each_within {A} p commands frames inputs reads others merged x i =
    let own : IsMember x (input_streams (commands_of commands) frames x.rank) = subst (IsMember x) (merged.each x.rank) (rank_in x.rank x inputs i refl) in
    by_bool (nat_eq x.rank 0)
    (λ k. let asked_for : IsMember x (commands_of commands) = rw k at own in of_commands commands x asked_for)
    (λ k.
    let came : IsMember x (capture_inputs x.rank (frames x.rank)) = rw k at own in
    let (c, listed, is) = in_inputs x.rank x (frames x.rank) came in
    subst (λ (y : Input). IsWithinLength y.event) (sym is) (read_at x.rank c (find_port p.ports x.rank) refl listed))
  where
    read_at : (q : ℕ) (c : CapturedFrame) (o : Option (PortPlan A)) → find_port p.ports q ≡ o → IsMember c (frames q) → length c.octets ≤ c.len
    read_at q c None none i = absurd (subst (λ (l : List CapturedFrame). IsMember c l) (others q none) i)
    read_at q c (Some out) there i = let (text, is) = reads q out there in in_text text (frames q) AtEnd is c i
