-- State of a run between two inputs, and the reasons why a run stops.
use Rattle.std.specs.Prelude.{◌≡◌, ◌≢◌, ℕ, zero, suc, Bool, ◌+◌, ◌<◌, ◌≤◌, ◌⊎◌, Option, Some, None, IfSome, OnOk, option_and_then, option_map, List, [], ◌∷◌, ◌++◌, length, slice_get, slice_set, Result, Ok, Err}
use Rattle.bridge_limits.specs.Members.{IsOrdered}
use Rattle.bridge_limits.specs.declared.TheConstants.{MAX_ARRIVALS}
use Rattle.bridge_capture.specs.declared.capture_fault.CaptureFault.{CaptureFault}
use Rattle.bridge_capture.specs.declared.capture_fault.CaptureFault.TheVariants as faults
use Rattle.bridge_capture.specs.declared.packet.Packet.{Packet}
use Rattle.bridge_capture.specs.Grammar.{CapturedFrame, IsCapture, AtEnd}
use Rattle.bridge_capture.specs.Reading.{packet_frame}
use Rattle.bridge_capture.specs.StandsFor.{HasReadFrames, IsRefusal, StandsFor, records_left}
use Rattle.bridge_config.specs.declared.command.Command.{Command}
use Rattle.bridge_config.specs.declared.ports.PortPlan.{PortPlan}
use Rattle.bridge_config.specs.Model.{Plan}
use Rattle.bridge_config.specs.Rules.{find_port}
use Rattle.bridge_capture.specs.declared.fault.RunFault.{RunFault}
use Rattle.bridge_capture.specs.declared.fault.RunFault.TheVariants as run
use Rattle.bridge_semantics.specs.Merge.{Input, capture_input, FollowsInput, IsMerged, input_events, newest_time, command_as_input, commands_of, input_streams}
use Rattle.bridge_semantics.specs.Outputs.{ReachesTime}
use Rattle.bridge_relay.specs.RelayState.{RelayState, RelayStandsFor}
use Rattle.bridge_capture.specs.declared.capture_reader.CaptureReader.{CaptureReader}
use Rattle.bridge_capture.specs.Devices.{HasFailed, AreUnfailing}
use Rattle.bridge_capture.specs.CaptureReaders.{AreOneAhead, HaveRests, IsReader, ReadsAhead, port_numbers, frames_left, total_frames_left}
use Rattle.bridge_core.specs.CaptureWriters.{AreWritten, AreWrittenExceptOne, IsOutOfMemory, MakesStart}

-- Holds if input `y` doesn't precede the newest of the inputs.
abbrev pub FollowsInputs : Input → List Input → Type 0
FollowsInputs y [] = Unit {0}
FollowsInputs y (x ∷ xs) = FollowsInput y x

-- Holds if `inputs` merges the commands so far and the frames that were read from each port's capture. The next command, if any, doesn't
-- precede the newest input.
pub record HasTakenInputs {A : Type 0} (p : Plan A) (texts : ℕ → List ℕ) (commanded : List Input) (next : Option Input) (frames : ℕ → List CapturedFrame) (inputs : List Input) : Type 0 where
  pub gave : (q : ℕ) (out : PortPlan A) → find_port p.ports q ≡ Some out → HasReadFrames (texts q) (frames q)
  pub others : (q : ℕ) → find_port p.ports q ≡ None → frames q ≡ []
  pub merged : IsMerged (input_streams commanded frames) inputs
  pub commands : IfSome next (λ c. FollowsInputs c inputs)

-- Holds if the capture of port `q` ends after the frames `taken`, or its next frame follows the newest input.
abbrev pub EndsOrFollows : List ℕ → ℕ → List CapturedFrame → List Input → Type 0
EndsOrFollows text q taken inputs = IsCapture text taken AtEnd ⊎ ((c : CapturedFrame) × HasReadFrames text (taken ++ c ∷ []) × FollowsInputs (capture_input q c) inputs)

-- Holds if the capture of port `q` ends after the frames `taken`, or its next frame follows the newest input and isn't before `until`.
abbrev pub EndsOrFollowsLater : Option ℕ → List ℕ → ℕ → List CapturedFrame → List Input → Type 0
EndsOrFollowsLater until text q taken inputs = IsCapture text taken AtEnd ⊎ ((c : CapturedFrame) × HasReadFrames text (taken ++ c ∷ []) × FollowsInputs (capture_input q c) inputs × ((t : ℕ) × (until ≡ Some t) × (t ≤ c.time)))

-- Holds if the newest input of the run arrived on port `port`; the port of a command is 0.
abbrev pub IsNewestPort : ℕ → List Input → Type 0
IsNewestPort port [] = ⊥
IsNewestPort port (x ∷ xs) = x.rank ≡ port

-- Holds if the fault is a fault of a capture: neither out of memory nor a failed write.
abbrev pub IsCaptureFault : CaptureFault → Type 0
IsCaptureFault fault = (fault ≢ faults.NoMemory) × (fault ≢ faults.Write)

-- Holds if the run stopped because the capture of port `port` is faulty after the newest input. The run up to this input is written.
pub record StopsReading {A W : Type 0} (p : Plan A) (texts : ℕ → List ℕ) (rests : ℕ → Option (List ℕ)) (commanded : List Input) (next : Option Input) (contents : W → Option (List ℕ)) (ports : List ℕ) (olds news : List W) (port : ℕ) (fault : CaptureFault) : Type 0 where
  pub frames : ℕ → List CapturedFrame
  pub inputs : List Input
  pub left : ℕ → List CapturedFrame
  pub taken : HasTakenInputs p texts commanded next frames inputs
  pub own : IsCaptureFault fault
  pub refused : IsRefusal fault (rests port) (texts port) (frames port)
  pub behind : IsNewestPort port inputs
  pub others : (q : ℕ) (out : PortPlan A) → find_port p.ports q ≡ Some out → q ≢ port → EndsOrFollows (texts q) q (frames q) inputs
  pub reaches : ReachesTime p (input_events inputs) (newest_time inputs) left
  pub written : AreWritten contents ports olds news left

-- Holds if the run stopped because the sink of port `port` failed for a transmission. The transmission starts no
-- earlier than the newest input, and before the next inputs. All other departures are written.
pub record StopsWriting {A W : Type 0} (p : Plan A) (texts : ℕ → List ℕ) (commanded : List Input) (next : Option Input) (contents : W → Option (List ℕ)) (ports : List ℕ) (olds news : List W) (port : ℕ) : Type 0 where
  pub frames : ℕ → List CapturedFrame
  pub inputs : List Input
  pub left : ℕ → List CapturedFrame
  pub moment : ℕ
  pub taken : HasTakenInputs p texts commanded next frames inputs
  pub late : newest_time inputs ≤ moment
  pub looks : (q : ℕ) (out : PortPlan A) → find_port p.ports q ≡ Some out → EndsOrFollowsLater (Some (moment + 1)) (texts q) q (frames q) inputs
  pub waits : IfSome next (λ c. moment < c.at)
  pub makes : MakesStart p (input_events inputs) moment port left
  pub written : AreWrittenExceptOne contents port ports olds news left

-- Holds if port `q`'s capture ends, or its next frame arrives at `moment` or later. If the newest input is of this
-- port, memory may instead have run out in its next record.
abbrev pub EndsFollowsOrLacksMemory : ℕ → List ℕ → Option (List ℕ) → ℕ → List CapturedFrame → List Input → Type 0
EndsFollowsOrLacksMemory moment text rest q taken inputs = EndsOrFollowsLater (Some moment) text q taken inputs ⊎ (IsNewestPort q inputs × IsRefusal faults.NoMemory rest text taken)

-- Holds if the run stopped because memory ran out. The run is written up to some time, between the newest input and the next inputs.
pub record StopsForMemory {A W : Type 0} (p : Plan A) (texts : ℕ → List ℕ) (rests : ℕ → Option (List ℕ)) (commanded : List Input) (next : Option Input) (contents : W → Option (List ℕ)) (ports : List ℕ) (olds news : List W) : Type 0 where
  pub frames : ℕ → List CapturedFrame
  pub inputs : List Input
  pub left : ℕ → List CapturedFrame
  pub moment : ℕ
  pub taken : HasTakenInputs p texts commanded next frames inputs
  pub late : newest_time inputs ≤ moment
  pub looks : (q : ℕ) (out : PortPlan A) → find_port p.ports q ≡ Some out → EndsFollowsOrLacksMemory moment (texts q) (rests q) q (frames q) inputs
  pub waits : IfSome next (λ c. moment ≤ c.at)
  pub reaches : ReachesTime p (input_events inputs) moment left
  pub written : AreWritten contents ports olds news left

-- Holds if a run under way stopped with this fault: a faulty capture, a failed write or out of memory. Each source has
-- the rest `rests` of its capture.
abbrev pub StopsUnderWay : {A W : Type 0} → Plan A → (ℕ → List ℕ) → (ℕ → Option (List ℕ)) → List Input → Option Input → (W → Option (List ℕ)) → List ℕ → List W → List W → RunFault → Type 0
StopsUnderWay p texts rests commanded next contents ports olds news (run.Capture port fault) = StopsReading p texts rests commanded next contents ports olds news port fault
StopsUnderWay p texts rests commanded next contents ports olds news (run.Write port) = StopsWriting p texts commanded next contents ports olds news port
StopsUnderWay p texts rests commanded next contents ports olds news run.NoMemory = StopsForMemory p texts rests commanded next contents ports olds news

-- Holds if the relay can handle the frames of these readers: their ports exist, their frames aren't too early, and the
-- limit of arrivals suffices.
pub record CanTakeFrames {G A : Type 0} (b : RelayState G A) (lanes : List (CaptureReader A)) : Type 0 where
  pub each : (i : ℕ) (lane : CaptureReader A) → slice_get lanes i ≡ Some lane → IsReader lane
  pub from : (i : ℕ) (lane : CaptureReader A) → slice_get lanes i ≡ Some lane → 1 ≤ lane.number
  pub known : (i : ℕ) (lane : CaptureReader A) → slice_get lanes i ≡ Some lane → (out : PortPlan A) × (find_port b.plan.ports lane.number ≡ Some out)
  pub onward : (i : ℕ) (lane : CaptureReader A) (p : Packet A) → slice_get lanes i ≡ Some lane → lane.ahead ≡ Some p → b.earliest ≤ p.time
  pub few : b.arrived + total_frames_left lanes ≤ MAX_ARRIVALS
  pub rises : IsOrdered (λ a b. a < b) (port_numbers lanes)

-- The time in ns of the reader's next frame; `None` if the reader has no frame ahead.
abbrev pub head_time : {A : Type 0} → CaptureReader A → Option ℕ
head_time lane = option_map (λ p. p.time) lane.ahead

-- The time in ns of the next frame of reader `i`, counted from 1; `None` if the reader is missing or has no next frame.
abbrev pub nth_head_time : {A : Type 0} → List (CaptureReader A) → ℕ → Option ℕ
nth_head_time lanes zero = None
nth_head_time lanes (suc i) = option_and_then head_time (slice_get lanes i)

-- Holds if the agenda has exactly the time of each reader's next frame, by the reader's number in the list, from 1.
pub record AreHeads {A : Type 0} (held : ℕ → Option ℕ) (lanes : List (CaptureReader A)) : Type 0 where
  pub few : length lanes ≤ 16
  pub each : (q : ℕ) → held q ≡ nth_head_time lanes q

-- Holds if a run is under way. The relay stands for the inputs so far, each reader is one frame ahead, and all departures are written.
pub record IsUnderWay {R W G A : Type 0} (remaining : R → Option (List ℕ)) (contents : W → Option (List ℕ)) (p : Plan A) (texts : ℕ → List ℕ) (commanded : List Input) (next : Option Input) (olds : List W) (b : RelayState G A) (lanes : List (CaptureReader A)) (sources : List R) (sinks : List W) : Type 0 where
  pub frames : ℕ → List CapturedFrame
  pub inputs : List Input
  pub left : ℕ → List CapturedFrame
  pub taken : HasTakenInputs p texts commanded next frames inputs
  pub ahead : AreOneAhead remaining texts frames lanes sources
  pub follow : (i : ℕ) (lane : CaptureReader A) (c : Packet A) → slice_get lanes i ≡ Some lane → lane.ahead ≡ Some c → FollowsInputs (capture_input lane.number (packet_frame c)) inputs
  pub covered : (q : ℕ) (out : PortPlan A) → find_port p.ports q ≡ Some out → (i : ℕ) × (slice_get (port_numbers lanes) i ≡ Some q)
  pub stands : RelayStandsFor p b (input_events inputs) left
  pub late : newest_time inputs ≤ b.earliest
  pub written : AreWritten contents (port_numbers lanes) olds sinks left

-- Holds if the next frame of the reader at index `place` arrives before the next command `next`, or if `next` is `None`: no command
-- follows.
abbrev pub PrecedesCommand : {A : Type 0} → List (CaptureReader A) → ℕ → Option Input → Type 0
PrecedesCommand {A} lanes place next = (l : CaptureReader A) (c : Packet A) → slice_get lanes place ≡ Some l → l.ahead ≡ Some c → IfSome next (λ y. c.time < y.at)

-- Holds if the next frame of the reader at index `place` arrives before time `until` in ns, or if `until` is `None`.
abbrev pub IsHeadEarlier : {A : Type 0} → Option ℕ → List (CaptureReader A) → ℕ → Type 0
IsHeadEarlier {A} until lanes place = (l : CaptureReader A) (c : Packet A) → slice_get lanes place ≡ Some l → l.ahead ≡ Some c → IfSome until (λ t. c.time < t)

-- Holds if `given`, a port and a frame, was taken from the reader at index `place`.
pub record HasTakenFrame {A : Type 0} (old new : List (CaptureReader A)) (place : ℕ) (given : ℕ × Packet A) : Type 0 where
  pub lane : CaptureReader A
  pub there : slice_get old place ≡ Some lane
  pub number : lane.number ≡ given.0
  pub ahead : lane.ahead ≡ Some given.1
  pub now : new ≡ slice_set old place (record lane { ahead = None })

-- Holds if `result` is the result of reading ahead by the reader at index `place`, after its last frame was taken. No other reader or
-- source changed.
pub record HasReadAhead {R A : Type 0} (remaining : R → Option (List ℕ)) (old new : List (CaptureReader A)) (before after : List R) (place : ℕ) (result : Result (Unit {0}) CaptureFault) : Type 0 where
  pub was : CaptureReader A
  pub source : R
  pub lane : CaptureReader A
  pub rest : R
  pub there : slice_get old place ≡ Some was
  pub lent : slice_get before place ≡ Some source
  pub lanes : new ≡ slice_set old place lane
  pub sources : after ≡ slice_set before place rest
  pub number : lane.number ≡ was.number
  pub looks : (text : List ℕ) (taken : List CapturedFrame) → StandsFor was.capture (remaining source) text taken → ReadsAhead lane (remaining rest) text taken result
  pub is_lane : OnOk result (IsReader lane)
  pub onward : OnOk result ((p : Packet A) → lane.ahead ≡ Some p → was.capture.latest ≤ p.time)
  pub fewer : OnOk result (frames_left lane ≤ records_left was.capture)

-- Holds if the result is Ok and the run is under way, or the result is an error and the run stopped with this fault.
abbrev pub RunsOrStops : {R W G A : Type 0} → (R → Option (List ℕ)) → (W → Option (List ℕ)) → Plan A → (ℕ → List ℕ) → List Input → Option Input → List W → RelayState G A → List (CaptureReader A) → List R → List W → Result (Unit {0}) RunFault → Type 0
RunsOrStops remaining contents p texts commanded next olds b lanes sources sinks (Ok u) = IsUnderWay remaining contents p texts commanded next olds b lanes sources sinks
RunsOrStops remaining contents p texts commanded next olds b lanes sources sinks (Err fault) =
    (rests : ℕ → Option (List ℕ)) → HaveRests remaining (port_numbers lanes) rests sources → StopsUnderWay p texts rests commanded next contents (port_numbers lanes) olds sinks fault

-- Holds if a fault of a run agrees with its devices: the named port's source or sink failed. Sources that never fail
-- give no read fault. If sinks fail only for memory, memory ran out.
pub record AgreesWithDevices {R W X : Type 0} (failed_read never_read : R → Bool) (failed_write never_write ran_out : W → Bool) (ports : List ℕ) (before after : List R) (olds news : List W) (result : Result X RunFault) : Type 0 where
  pub read : (port : ℕ) → result ≡ Err (run.Capture port faults.Read) → HasFailed failed_read ports port after
  pub sure : AreUnfailing never_read before → (port : ℕ) → result ≢ Err (run.Capture port faults.Read)
  pub lasts : AreUnfailing never_read before → AreUnfailing never_read after
  pub wrote : (port : ℕ) → result ≡ Err (run.Write port) → HasFailed failed_write ports port news
  pub sound : AreUnfailing never_write olds → (port : ℕ) → result ≡ Err (run.Write port) → IsOutOfMemory ran_out ports port news
  pub holds : AreUnfailing never_write olds → AreUnfailing never_write news

-- Holds if no reader's next frame is before `until`. If `until` is `None`, no reader has a next frame.
abbrev pub AreHeadsLater : {A : Type 0} → Option ℕ → List (CaptureReader A) → Type 0
AreHeadsLater {A} until lanes = (i : ℕ) (lane : CaptureReader A) (p : Packet A) → slice_get lanes i ≡ Some lane → lane.ahead ≡ Some p → (t : ℕ) × (until ≡ Some t) × (t ≤ p.time)

-- Holds if command `c` was carried out and the run is under way (Ok), or the run stopped before the command with this fault.
abbrev pub DoesCommand : {R W G A : Type 0} → (R → Option (List ℕ)) → (W → Option (List ℕ)) → Plan A → (ℕ → List ℕ) → List Input → Command → Option Input → List W → RelayState G A → List (CaptureReader A) → List R → List W → Result (Unit {0}) RunFault → Type 0
DoesCommand remaining contents p texts commanded c next olds b lanes sources sinks (Ok u) = IsUnderWay remaining contents p texts (command_as_input c ∷ commanded) next olds b lanes sources sinks
DoesCommand remaining contents p texts commanded c next olds b lanes sources sinks (Err fault) =
    (rests : ℕ → Option (List ℕ)) → HaveRests remaining (port_numbers lanes) rests sources → StopsUnderWay p texts rests commanded (Some (command_as_input c)) contents (port_numbers lanes) olds sinks fault

-- The first command as an input of the run; `None` if no command is left.
abbrev pub first_command : List Command → Option Input
first_command [] = None
first_command (c ∷ cs) = Some (command_as_input c)

-- Holds if the run stopped after the commands `done` and before the commands `later`.
pub record StopsInCommands {A W : Type 0} (p : Plan A) (texts : ℕ → List ℕ) (rests : ℕ → Option (List ℕ)) (commands : List Command) (contents : W → Option (List ℕ)) (ports : List ℕ) (olds news : List W) (fault : RunFault) : Type 0 where
  pub done : List Command
  pub later : List Command
  pub all : commands ≡ done ++ later
  pub stops : StopsUnderWay p texts rests (commands_of done) (first_command later) contents ports olds news fault

-- Holds if all frames and commands are handled, and no reader has a next frame.
pub record IsFinishedRun {R W G A : Type 0} (remaining : R → Option (List ℕ)) (contents : W → Option (List ℕ)) (p : Plan A) (texts : ℕ → List ℕ) (commands : List Command) (olds : List W) (b : RelayState G A) (lanes : List (CaptureReader A)) (sources : List R) (sinks : List W) : Type 0 where
  pub under : IsUnderWay remaining contents p texts (commands_of commands) None olds b lanes sources sinks
  pub none : (i : ℕ) (lane : CaptureReader A) → slice_get lanes i ≡ Some lane → lane.ahead ≡ None

-- Holds if the result is Ok and the run is complete, or the result is an error and the run stopped with this fault.
abbrev pub FinishesOrStops : {R W G A : Type 0} → (R → Option (List ℕ)) → (W → Option (List ℕ)) → Plan A → (ℕ → List ℕ) → List Command → List W → RelayState G A → List (CaptureReader A) → List R → List W → Result (Unit {0}) RunFault → Type 0
FinishesOrStops remaining contents p texts commands olds b lanes sources sinks (Ok u) = IsFinishedRun remaining contents p texts commands olds b lanes sources sinks
FinishesOrStops remaining contents p texts commands olds b lanes sources sinks (Err fault) =
    (rests : ℕ → Option (List ℕ)) → HaveRests remaining (port_numbers lanes) rests sources → StopsInCommands p texts rests commands contents (port_numbers lanes) olds sinks fault
