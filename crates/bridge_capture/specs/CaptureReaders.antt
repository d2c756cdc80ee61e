-- Captures of a bridge's ports, which a run reads one record ahead.
use Rattle.std.specs.Prelude.{◌≡◌, ℕ, ◌+◌, ◌<◌, ◌≤◌, ◌⊎◌, length, Option, Some, None, is_some, List, [], ◌∷◌, ◌++◌, slice_get, sum_by, Result, Ok, Err, if◌then◌else◌}
use Rattle.bridge_limits.specs.declared.TheConstants.{END_OF_TIME, MAX_CAPTURED_OCTETS}
use Rattle.bridge_capture.specs.declared.fault.RunFault.{RunFault}
use Rattle.bridge_capture.specs.declared.fault.RunFault.TheVariants as run
use Rattle.bridge_capture.specs.declared.capture_fault.CaptureFault.{CaptureFault}
use Rattle.bridge_capture.specs.declared.capture_fault.CaptureFault.TheVariants as faults
use Rattle.bridge_capture.specs.declared.packet.Packet.{Packet}
use Rattle.bridge_capture.specs.Grammar.{CapturedFrame, IsCapture, AtEnd, AtFault}
use Rattle.bridge_capture.specs.Reading.{packet_frame}
use Rattle.bridge_capture.specs.StandsFor.{StandsFor, IsRefusal, HasReadFrames, IsReading, records_left}
use Rattle.bridge_capture.specs.TakenOctets.{TakesFewer}
use Rattle.bridge_capture.specs.declared.capture_reader.CaptureReader.{CaptureReader}

-- Holds if more records of the reader's capture can follow, and its last record has the time of `p`. This time is below `END_OF_TIME`.
--
-- The captured octets of `p` are at most `MAX_CAPTURED_OCTETS` and at most its length. All this holds whatever the source contains.
pub record IsFrameAhead {A : Type 0} (lane : CaptureReader A) (p : Packet A) : Type 0 where
  pub reading : IsReading lane.capture
  pub latest : lane.capture.latest ≡ p.time
  pub early : p.time < END_OF_TIME
  pub small : length p.octets.items ≤ MAX_CAPTURED_OCTETS
  pub within : length p.octets.items ≤ p.len

-- Holds if the reader has no frame ahead, or one with the guarantees of `IsFrameAhead`.
abbrev pub IsReader : {A : Type 0} → CaptureReader A → Type 0
IsReader {A} lane = (p : Packet A) → lane.ahead ≡ Some p → IsFrameAhead lane p

-- Number of frames that a reader can still return: the frame ahead and later frames; 0 without a frame ahead.
abbrev pub frames_left : {A : Type 0} → CaptureReader A → ℕ
frames_left lane = if is_some lane.ahead then records_left lane.capture + 1 else 0

-- Number of frames that all readers together can still return.
abbrev pub total_frames_left : {A : Type 0} → List (CaptureReader A) → ℕ
total_frames_left lanes = sum_by frames_left lanes

-- Port numbers of the readers of captures, in list order.
abbrev pub port_numbers : {A : Type 0} → List (CaptureReader A) → List ℕ
port_numbers [] = []
port_numbers (lane ∷ more) = lane.number ∷ port_numbers more

-- Frame ahead, as a list with at most one frame.
abbrev pub frame_ahead : {A : Type 0} → Option (Packet A) → List CapturedFrame
frame_ahead None = []
frame_ahead (Some p) = packet_frame p ∷ []

-- Holds if, after the frames `given`, the file contents have this packet as their next frame; for `None`, they end
-- without a fault.
abbrev pub FindsNext : {A : Type 0} → List ℕ → List CapturedFrame → Option (Packet A) → Type 0
FindsNext text given None = IsCapture text given AtEnd
FindsNext text given (Some p) = HasReadFrames text (given ++ packet_frame p ∷ [])

-- Holds if the frames `taken` were taken from the reader; its frame ahead is the next frame of the file contents. At
-- their end, the frame ahead is `None`.
pub record IsOneAhead {A : Type 0} (lane : CaptureReader A) (remaining : Option (List ℕ)) (text : List ℕ) (taken : List CapturedFrame) : Type 0 where
  pub stands : StandsFor lane.capture remaining text (taken ++ frame_ahead lane.ahead)
  pub finds : FindsNext text taken lane.ahead

-- Holds if, after the frames `taken`, reading ahead found the next frame or the end, or returned a fault.
abbrev pub ReadsAhead : {A : Type 0} → CaptureReader A → Option (List ℕ) → List ℕ → List CapturedFrame → Result (Unit {0}) CaptureFault → Type 0
ReadsAhead lane remaining text taken (Ok u) = IsOneAhead lane remaining text taken
ReadsAhead lane remaining text taken (Err fault) = IsRefusal fault remaining text taken

-- Holds if the fault is the first fault of the file contents. Or the source failed in the header or first record, or
-- memory ran out in the first record.
abbrev pub FailsAtFirst : CaptureFault → Option (List ℕ) → List ℕ → Type 0
FailsAtFirst faults.Read remaining text = TakesFewer 24 (Some text) remaining ⊎ IsRefusal faults.Read remaining text []
FailsAtFirst faults.NoMemory remaining text = IsRefusal faults.NoMemory remaining text []
FailsAtFirst fault remaining text = IsCapture text [] (AtFault fault)

-- Holds if the first read found the first frame or the end, or returned a fault.
abbrev pub BeginsReader : {A : Type 0} → Option (List ℕ) → List ℕ → Result (CaptureReader A) CaptureFault → Type 0
BeginsReader remaining text (Ok lane) = IsOneAhead lane remaining text []
BeginsReader remaining text (Err fault) = FailsAtFirst fault remaining text

-- Holds if the reader at index `place` has the earliest frame ahead; among several, it has the lowest index.
pub record IsEarliestReader {A : Type 0} (lanes : List (CaptureReader A)) (place : ℕ) : Type 0 where
  pub lane : CaptureReader A
  pub packet : Packet A
  pub there : slice_get lanes place ≡ Some lane
  pub ahead : lane.ahead ≡ Some packet
  pub least : (i : ℕ) (l : CaptureReader A) (p : Packet A) → slice_get lanes i ≡ Some l → l.ahead ≡ Some p → (packet.time < p.time) ⊎ ((packet.time ≡ p.time) × (place ≤ i))

-- Holds if each source still has the whole file contents of its port.
abbrev pub HaveTexts : {R : Type 0} → (R → Option (List ℕ)) → List ℕ → (ℕ → List ℕ) → List R → Type 0
HaveTexts {R} remaining ports texts sources = (i q : ℕ) (r : R) → slice_get ports i ≡ Some q → slice_get sources i ≡ Some r → remaining r ≡ Some (texts q)

-- Holds if each source still has the octets that `rests` gives for its port.
abbrev pub HaveRests : {R : Type 0} → (R → Option (List ℕ)) → List ℕ → (ℕ → Option (List ℕ)) → List R → Type 0
HaveRests {R} remaining ports rests sources = (i q : ℕ) (r : R) → slice_get ports i ≡ Some q → slice_get sources i ≡ Some r → remaining r ≡ rests q

-- Holds if no octet of any port's capture was read: the rest of each source is its whole capture.
abbrev pub AreUnread : (ℕ → List ℕ) → (ℕ → Option (List ℕ)) → List ℕ → Type 0
AreUnread texts rests ports = (i q : ℕ) → slice_get ports i ≡ Some q → rests q ≡ Some (texts q)

-- Holds if for each reader, the frames `taken` of its port were taken, and the reader's frame ahead is the capture's
-- next frame. At the capture's end, the frame ahead is `None`.
abbrev pub AreOneAhead : {A R : Type 0} → (R → Option (List ℕ)) → (ℕ → List ℕ) → (ℕ → List CapturedFrame) → List (CaptureReader A) → List R → Type 0
AreOneAhead {A} {R} remaining texts taken lanes sources = (i : ℕ) (lane : CaptureReader A) (r : R) → slice_get lanes i ≡ Some lane → slice_get sources i ≡ Some r → IsOneAhead lane (remaining r) (texts lane.number) (taken lane.number)

-- Holds if each reader of the list has the guarantees of `IsReader`.
abbrev pub AreReaders : {A : Type 0} → List (CaptureReader A) → Type 0
AreReaders {A} lanes = (i : ℕ) (lane : CaptureReader A) → slice_get lanes i ≡ Some lane → IsReader lane

-- Holds if the file contents begin with a valid frame, or are a capture without frames.
abbrev pub HasSoundStart : List ℕ → Type 0
HasSoundStart text = IsCapture text [] AtEnd ⊎ ((captured : CapturedFrame) × HasReadFrames text (captured ∷ []))

-- Holds if the first read of this port failed with this fault, and the first reads of all earlier ports succeeded.
pub record FailsAtPort (texts : ℕ → List ℕ) (rests : ℕ → Option (List ℕ)) (ports : List ℕ) (port : ℕ) (why : CaptureFault) : Type 0 where
  pub place : ℕ
  pub there : slice_get ports place ≡ Some port
  pub before : (i q : ℕ) → i < place → slice_get ports i ≡ Some q → HasSoundStart (texts q)
  pub fault : FailsAtFirst why (rests port) (texts port)

-- Holds if the first read of a port failed, after the first reads of all earlier ports succeeded. Or memory ran out before any read.
abbrev pub FailsToBegin : (ℕ → List ℕ) → (ℕ → Option (List ℕ)) → List ℕ → RunFault → Type 0
FailsToBegin texts rests ports (run.Capture port fault) = FailsAtPort texts rests ports port fault
FailsToBegin texts rests ports (run.Write port) = ⊥
FailsToBegin texts rests ports run.NoMemory = AreUnread texts rests ports ⊎ ((port : ℕ) × FailsAtPort texts rests ports port faults.NoMemory)

-- Fault of a run for a capture fault of a port.
abbrev pub run_fault : ℕ → CaptureFault → RunFault
run_fault port faults.NoMemory = run.NoMemory
run_fault port fault = run.Capture port fault
