-- State of a capture after a call.
use Rattle.std.proofs.Common.{◌≡◌, ℕ, List, [], ◌∷◌, ◌++◌, Option, Some, Result, Ok, refl, sym, ap, ◌∙◌, subst, drop}
use Rattle.std.specs.Prelude.{IfSome, ◌≢◌}
use Rattle.bridge_capture.specs.declared.format.CaptureFormat.{CaptureFormat}
use Rattle.bridge_capture.specs.declared.capture_fault.CaptureFault.{CaptureFault}
use Rattle.bridge_capture.specs.declared.capture_fault.CaptureFault.TheVariants as faults
use Rattle.bridge_capture.specs.declared.packet.Packet.{Packet}
use Rattle.bridge_capture.specs.declared.progress.Progress.{Progress}
use Rattle.bridge_capture.specs.declared.progress.Progress.TheVariants.{Reading}
use Rattle.bridge_capture.specs.Grammar.{CapturedFrame, RecordPosition, FrontItem, Nothing, Fault, ReadsPrefix, IsCapture, AtEnd, AtFault, CaptureEnding, IsEnding, ReadsBody, front_item, next_position, first_position}
use Rattle.bridge_capture.specs.Reading.{packet_frame, TakesFront, IsFaultOfFront}
use Rattle.bridge_capture.specs.StandsFor.{CaptureState, read_position, HasReadFrames, IsRefusal, StandsForProgress, StandsFor, StopsInRecord, TakesRefusedNext}
use Rattle.bridge_capture.proofs.Fronts.{if_some}
use Rattle.bridge_capture.proofs.Steps.{begins_more, begins_ends}

reads_on : (capture : CaptureState) (old : Option (List ℕ)) (text : List ℕ) (given : List CapturedFrame) → capture.progress ≡ Reading → StandsFor capture old text given → StandsForProgress Reading capture old text given
reads_on capture old text given e h = subst (λ (p : Progress). StandsForProgress p capture old text given) e h

-- The call returned one more packet.
pub goes_on : {A : Type 0} (capture new : CaptureState) (old left : Option (List ℕ)) (text : List ℕ) (given : List CapturedFrame) (packet : Packet A)
    → capture.progress ≡ Reading → new.progress ≡ Reading → new.form ≡ capture.form → read_position new ≡ next_position (read_position capture) (packet_frame packet)
    → IfSome old (λ bytes. TakesFront {A = A} (front_item capture.form (read_position capture) bytes) left (Ok (Some packet)))
    → StandsFor capture old text given → StandsFor new left text (given ++ packet_frame packet ∷ []) × HasReadFrames text (given ++ packet_frame packet ∷ [])
goes_on {A} capture new old left text given packet e en ef ep took h =
    let s = reads_on capture old text given e h in
    let t = subst (λ (o : Option (List ℕ)). IfSome o (λ bytes. TakesFront {A = A} (front_item capture.form (read_position capture) bytes) left (Ok (Some packet)))) s.1 took in
    let begins = begins_more capture.form first_position (drop 24 text) given (read_position capture) s.0 (packet_frame packet) t.0 s.3 t.1 in
    let here : StandsForProgress Reading new left text (given ++ packet_frame packet ∷ []) = (
      t.0,
      t.2,
      s.2 ∙ ap (λ (f : CaptureFormat). Ok f) (sym ef),
      subst (λ (f : CaptureFormat). ReadsPrefix f first_position (drop 24 text) (given ++ packet_frame packet ∷ []) (read_position new) t.0) (sym ef) (subst (λ (q : RecordPosition). ReadsPrefix capture.form first_position (drop 24 text) (given ++ packet_frame packet ∷ []) q t.0) (sym ep) begins),
    ) in
    (subst (λ (p : Progress). StandsForProgress p new left text (given ++ packet_frame packet ∷ [])) (sym en) here, (capture.form, next_position (read_position capture) (packet_frame packet), t.0, s.2, begins))

-- The frames so far, and an ending, make a capture.
ends_so : (capture : CaptureState) (old : Option (List ℕ)) (text : List ℕ) (given : List CapturedFrame) (ending : CaptureEnding) → capture.progress ≡ Reading
    → IfSome old (λ bytes. IsEnding (front_item capture.form (read_position capture) bytes) ending) → StandsFor capture old text given → IsCapture text given ending
ends_so capture old text given ending e at h =
    let s = reads_on capture old text given e h in
    let t = subst (λ (o : Option (List ℕ)). IfSome o (λ bytes. IsEnding (front_item capture.form (read_position capture) bytes) ending)) s.1 at in
    subst (λ (r : Result CaptureFormat CaptureFault). ReadsBody r text given ending) (sym s.2) (begins_ends capture.form first_position (drop 24 text) given (read_position capture) s.0 ending s.3 t)

-- If no octets remain at the front, the capture is at its end.
end_of : (front : FrontItem) → front ≡ Nothing → IsEnding front AtEnd
end_of front e = subst (λ (f : FrontItem). IsEnding f AtEnd) (sym e) refl

fault_of : (front : FrontItem) (fault : CaptureFault) → front ≡ Fault fault → IsEnding front (AtFault fault)
fault_of front fault e = subst (λ (f : FrontItem). IsEnding f (AtFault fault)) (sym e) refl

-- The capture is at its end.
pub came_to_end : (capture : CaptureState) (old : Option (List ℕ)) (text : List ℕ) (given : List CapturedFrame) → capture.progress ≡ Reading
    → IfSome old (λ bytes. front_item capture.form (read_position capture) bytes ≡ Nothing) → StandsFor capture old text given → IsCapture text given AtEnd
came_to_end capture old text given e at h = ends_so capture old text given AtEnd e (if_some {P = λ bytes. front_item capture.form (read_position capture) bytes ≡ Nothing} old (λ bytes q. end_of _ q) at) h

so_far : (capture : CaptureState) (old : Option (List ℕ)) (text : List ℕ) (given : List CapturedFrame) → capture.progress ≡ Reading → StandsFor capture old text given → HasReadFrames text given
so_far capture old text given e h = let s = reads_on capture old text given e h in (capture.form, read_position capture, s.0, s.2, s.3)

of_text : (capture : CaptureState) (old : Option (List ℕ)) (text : List ℕ) (given : List CapturedFrame) (fault : CaptureFault) → capture.progress ≡ Reading
    → IfSome old (λ bytes. front_item capture.form (read_position capture) bytes ≡ Fault fault) → StandsFor capture old text given → IsCapture text given (AtFault fault)
of_text capture old text given fault e at h = ends_so capture old text given (AtFault fault) e (if_some {P = λ bytes. front_item capture.form (read_position capture) bytes ≡ Fault fault} old (λ bytes q. fault_of _ fault q) at) h

-- The next record was begun and not completed.
stops_in : (capture : CaptureState) (old left : Option (List ℕ)) (text : List ℕ) (given : List CapturedFrame) (fault : CaptureFault) → capture.progress ≡ Reading
    → TakesRefusedNext capture old left fault → StandsFor capture old text given → StopsInRecord fault left text given
stops_in capture old left text given fault e took h =
    let s = reads_on capture old text given e h in
    record { form = capture.form; next = read_position capture; rest = s.0; header = s.2; begins = s.3; taken = subst (λ (o : Option (List ℕ)). TakesRefusedNext capture o left fault) s.1 took }

-- The capture was refused.
pub was_refused : (capture : CaptureState) (old left : Option (List ℕ)) (text : List ℕ) (given : List CapturedFrame) (fault : CaptureFault) → capture.progress ≡ Reading → fault ≢ faults.Write
    → IfSome old (λ bytes. IsFaultOfFront fault (front_item capture.form (read_position capture) bytes)) → TakesRefusedNext capture old left fault → StandsFor capture old text given → IsRefusal fault left text given
was_refused capture old left text given faults.Read e own at took h = stops_in capture old left text given faults.Read e took h
was_refused capture old left text given faults.NoMemory e own at took h = stops_in capture old left text given faults.NoMemory e took h
was_refused capture old left text given faults.Write e own at took h = absurd (own refl)
was_refused capture old left text given fault e own at took h = of_text capture old text given fault e at h

-- The capture has returned these frames.
pub has_given : (capture : CaptureState) (old : Option (List ℕ)) (text : List ℕ) (given : List CapturedFrame) → StandsFor capture old text given → capture.progress ≡ Reading → HasReadFrames text given
has_given capture old text given h e = so_far capture old text given e h
