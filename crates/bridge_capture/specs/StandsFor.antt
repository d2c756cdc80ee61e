-- State of a capture that is being read, and the file contents that its source had at first.
use Rattle.std.specs.Prelude.{◌≡◌, ℕ, ◌+◌, ◌-◌, List, [], ◌∷◌, ◌++◌, Option, Some, None, Result, Ok, Err, drop}
use Rattle.bridge_capture.specs.declared.record.TheConstants.{MAX_RECORDS}
use Rattle.bridge_capture.specs.declared.format.CaptureFormat.{CaptureFormat}
use Rattle.bridge_capture.specs.declared.capture_fault.CaptureFault.{CaptureFault}
use Rattle.bridge_capture.specs.declared.capture_fault.CaptureFault.TheVariants as faults
use Rattle.bridge_capture.specs.declared.packet.Packet.{Packet}
use Rattle.bridge_capture.specs.declared.progress.Progress.{Progress}
use Rattle.bridge_capture.specs.declared.progress.Progress.TheVariants.{Reading, Ended, Refused}
use Rattle.bridge_capture.specs.Grammar.{CapturedFrame, RecordPosition, ReadsPrefix, IsCapture, AtEnd, AtFault, header_format, first_position}
use Rattle.bridge_capture.specs.Reading.{packet_frame}
use Rattle.bridge_capture.specs.TakenOctets.{TakesFewer, TakesRefusedRecord}

-- State of a capture: its format, the number of returned records, the time of the last one in ns, and its progress.
pub record CaptureState : Type 0 where
  pub form : CaptureFormat
  pub records : ℕ
  pub latest : ℕ
  pub progress : Progress

-- Position of the next record: its number and its earliest allowed time.
abbrev pub read_position : CaptureState → RecordPosition
read_position capture = record { number = capture.records + 1; earliest = capture.latest }

-- Number of records that can still follow, up to the limit of a capture.
abbrev pub records_left : CaptureState → ℕ
records_left capture = MAX_RECORDS - capture.records

-- Holds if the capture has neither ended nor been refused, so records can follow.
abbrev pub IsReading : CaptureState → Type 0
IsReading capture = capture.progress ≡ Reading

-- Holds if all records were returned, and the capture has ended without a fault.
abbrev pub HasEnded : CaptureState → Type 0
HasEnded capture = capture.progress ≡ Ended

-- Holds if the reading of the capture has stopped, because the capture was refused with the given fault.
abbrev pub HasRefused : CaptureState → CaptureFault → Type 0
HasRefused capture fault = capture.progress ≡ Refused fault

-- Holds if the file contents `text` begin with a header without fault and the frames `given`.
abbrev pub HasReadFrames : List ℕ → List CapturedFrame → Type 0
HasReadFrames text given = (form : CaptureFormat) × (next : RecordPosition) × (rest : List ℕ) × (header_format text ≡ Ok form) × ReadsPrefix form first_position (drop 24 text) given next rest

-- Holds if the file contents begin with these frames, and reading the next record stopped because the source failed or memory ran out.
pub record StopsInRecord (fault : CaptureFault) (remaining : Option (List ℕ)) (text : List ℕ) (given : List CapturedFrame) : Type 0 where
  pub form : CaptureFormat
  pub next : RecordPosition
  pub rest : List ℕ
  pub header : header_format text ≡ Ok form
  pub begins : ReadsPrefix form first_position (drop 24 text) given next rest
  pub taken : TakesRefusedRecord form next (Some rest) remaining fault

-- Holds if, after these frames, the file contents have this fault; or the source failed or memory ran out in the next record.
abbrev pub IsRefusal : CaptureFault → Option (List ℕ) → List ℕ → List CapturedFrame → Type 0
IsRefusal faults.Read remaining text given = StopsInRecord faults.Read remaining text given
IsRefusal faults.Write remaining text given = ⊥
IsRefusal faults.NoMemory remaining text given = StopsInRecord faults.NoMemory remaining text given
IsRefusal fault remaining text given = IsCapture text given (AtFault fault)

-- Holds if the capture stands for these frames of the file contents, according to its progress.
abbrev pub StandsForProgress : Progress → CaptureState → Option (List ℕ) → List ℕ → List CapturedFrame → Type 0
StandsForProgress Reading capture remaining text given = (rest : List ℕ) × (remaining ≡ Some rest) × (header_format text ≡ Ok capture.form) × ReadsPrefix capture.form first_position (drop 24 text) given (read_position capture) rest
StandsForProgress Ended capture remaining text given = IsCapture text given AtEnd
StandsForProgress (Refused fault) capture remaining text given = IsRefusal fault remaining text given

-- Holds if the capture has returned these frames of the file contents. If more records can follow, its source has the remaining octets.
abbrev pub StandsFor : CaptureState → Option (List ℕ) → List ℕ → List CapturedFrame → Type 0
StandsFor capture remaining text given = StandsForProgress capture.progress capture remaining text given

-- Holds if the call read a header without fault, returned the header's fault, or returned that the source failed within the header.
abbrev pub BeginsCapture : List ℕ → Option (List ℕ) → Result CaptureState CaptureFault → Type 0
BeginsCapture text remaining (Ok capture) = StandsFor capture remaining text []
BeginsCapture text remaining (Err faults.Read) = TakesFewer 24 (Some text) remaining
BeginsCapture text remaining (Err fault) = IsCapture text [] (AtFault fault)

-- Holds if the call returned the next frame, the end or a fault, and the capture stands for the frames so far.
abbrev pub AnswersNext : {A : Type 0} → CaptureState → Option (List ℕ) → List ℕ → List CapturedFrame → Result (Option (Packet A)) CaptureFault → Type 0
AnswersNext capture remaining text given (Ok (Some packet)) = StandsFor capture remaining text (given ++ packet_frame packet ∷ []) × HasReadFrames text (given ++ packet_frame packet ∷ [])
AnswersNext capture remaining text given (Ok None) = StandsFor capture remaining text given × IsCapture text given AtEnd
AnswersNext capture remaining text given (Err fault) = StandsFor capture remaining text given × IsRefusal fault remaining text given

-- Holds if a call that refused the next record with `fault` took the octets that `TakesRefusedRecord` states.
abbrev pub TakesRefusedNext : CaptureState → Option (List ℕ) → Option (List ℕ) → CaptureFault → Type 0
TakesRefusedNext capture old new fault = TakesRefusedRecord capture.form (read_position capture) old new fault

-- Time stamp in ns of the last frame; `earliest` if there is no frame. Later frames must not be earlier.
abbrev pub last_time : ℕ → List CapturedFrame → ℕ
last_time earliest [] = earliest
last_time earliest (captured ∷ more) = last_time captured.time more
