-- Octets taken from the source when a record or a header is refused.
use Rattle.std.proofs.Common.{◌≡◌, ℕ, ◌+◌, ◌≤◌, ◌<◌, List, [], ◌∷◌, ◌++◌, length, Option, refl, sym, subst, inl, inr, arith}
use Rattle.std.specs.Io.KnownBytes.{Consumes}
use Rattle.std.proofs.KnownBytes.{Consumes-trans}
use Rattle.std.proofs.lemmas.List.{length-append}
use Rattle.bridge_capture.specs.declared.format.CaptureFormat.{CaptureFormat}
use Rattle.bridge_capture.specs.declared.capture_fault.CaptureFault.{CaptureFault}
use Rattle.bridge_capture.specs.declared.capture_fault.CaptureFault.TheVariants as faults
use Rattle.bridge_capture.specs.Grammar.{RecordPosition, captured_length}
use Rattle.bridge_capture.specs.Reading.{CutsOctets, IsRecordHeaderFault, IsHeaderFault}
use Rattle.bridge_capture.specs.TakenOctets.{TakesFewer, TakesRefusedRecord, TakesRefusedHeader, HasSoundHeader}
use Rattle.bridge_capture.proofs.Fronts.{time_front, captured_front, original_front}

-- A sound record header stays sound if octets follow.
sound_more : (form : CaptureFormat) (place : RecordPosition) (w o : List ℕ) → length w ≡ 16 → HasSoundHeader form place w → HasSoundHeader form place (w ++ o)
sound_more form place w o len sound = rw (time_front form w o len, captured_front form w o len, original_front form w o len) sound

brief_more : (form : CaptureFormat) (w o : List ℕ) → length w ≡ 16 → length o < captured_length form w → length (w ++ o) < 16 + captured_length form (w ++ o)
brief_more form w o len short = omega (arith, length-append w o, captured_front form w o len)

-- The octets of the record are refused.
pub octets_taken : (form : CaptureFormat) (place : RecordPosition) (old mid new : Option (List ℕ)) (w : List ℕ) (fault : CaptureFault) → length w ≡ 16 → place.number ≤ 1000000 → HasSoundHeader form place w
    → Consumes old mid w → CutsOctets place.number (captured_length form w) mid new fault → TakesRefusedRecord form place old new fault
octets_taken form place old mid new w faults.Read len few sound p (o, short, q) =
    (w ++ o, (λ many. absurd (omega arith), inr (sound_more form place w o len sound, brief_more form w o len short)), Consumes-trans old mid new w o p q)
octets_taken form place old mid new w faults.NoMemory len few sound p same = (w, len, sound, subst (λ left. Consumes old left w) (sym same) p)
octets_taken form place old mid new w fault len few sound p cut =
    let o = cut.1.1.0 in
    subst (TakesRefusedRecord form place old new) (sym cut.0) (w ++ o, inr (sound_more form place w o len sound, brief_more form w o len cut.1.1.1), Consumes-trans old mid new w o p cut.1.1.2)

-- The header of the record is refused.
pub words_taken : (form : CaptureFormat) (place : RecordPosition) (old new : Option (List ℕ)) (w : List ℕ) (fault : CaptureFault) → IsRecordHeaderFault fault → length w ≡ 16 → Consumes old new w → TakesRefusedRecord form place old new fault
words_taken form place old new w faults.Read told len p = absurd told
words_taken form place old new w (faults.RecordCut number) told len p = absurd told
words_taken form place old new w faults.TooManyRecords told len p = absurd told
words_taken form place old new w faults.NoMemory told len p = absurd told
words_taken form place old new w fault told len p = (w, len, p)

-- Fewer than one octet is no octet.
none_fewer : (o : List ℕ) → length o < 1 → o ≡ []
none_fewer [] short = refl
none_fewer (x ∷ o) short = absurd (omega arith)

pub none_taken : (form : CaptureFormat) (place : RecordPosition) (old new : Option (List ℕ)) → TakesFewer 1 old new → TakesRefusedRecord form place old new faults.Read
none_taken form place old new (o, short, p) = (o, (λ many. none_fewer o short, inl (omega (arith, short))), p)

pub some_taken : (form : CaptureFormat) (place : RecordPosition) (old new : Option (List ℕ)) → place.number ≤ 1000000 → TakesFewer 16 old new → TakesRefusedRecord form place old new faults.Read
some_taken form place old new few (o, short, p) = (o, (λ many. absurd (omega arith), inl short), p)

-- The header of the capture is refused.
pub header_taken : (old new : Option (List ℕ)) (w : List ℕ) (fault : CaptureFault) → IsHeaderFault fault → length w ≡ 24 → Consumes old new w → TakesRefusedHeader old new fault
header_taken old new w faults.Read told len p = absurd told
header_taken old new w faults.HeaderCut told len p = absurd told
header_taken old new w fault told len p = (w, len, p)
