-- Queue of a port whose gates are always open, and the frame ahead.
use Rattle.std.specs.Prelude.{ℕ, ◌+◌, ◌-◌, List, length, take, slice_get, Option, Some, None, Vec, option_map, Result, Ok, Err}
use Rattle.bridge_port.specs.declared.item.Item.{Item}
use Rattle.bridge_port.specs.StandsFor.{EgressState}
use Rattle.bridge_frame.specs.declared.Speed.{Speed}
use Rattle.bridge_capture.specs.declared.packet.Packet.{Packet}
use Rattle.bridge_capture.specs.declared.capture_reader.CaptureReader.{CaptureReader}
use Rattle.bridge_capture.specs.declared.capture_fault.CaptureFault.{CaptureFault}
use Rattle.bridge_capture.specs.Grammar.{CapturedFrame}
use Rattle.bridge_capture.specs.CaptureReaders.{IsOneAhead}
use Rattle.bridge_capture.specs.StandsFor.{CaptureState, IsRefusal}
use Rattle.bridge_capture.specs.declared.fault.RunFault.{RunFault}
use Rattle.bridge_wire.specs.declared.wire_count.WireCount.{WireCount}
use Rattle.bridge_wire.specs.declared.open_queue.OpenQueue.{OpenQueue}
use Rattle.bridge_wire.specs.Rings.{one_queue_state, ring_items}
use Rattle.bridge_wire.specs.Wire.{StopsRun}
use Rattle.bridge_wire.specs.Departures.{IsUnderWay}

-- State of the port that has the open queue of a run of `wire`.
abbrev pub queue_state : {A : Type 0} → OpenQueue A → EgressState (Vec ℕ A)
queue_state q = one_queue_state q.speed (length q.places.items - 1) (take q.queued (ring_items q.head q.places.items)) q.free q.earliest q.offered q.started

-- Place in the ring of the frame ahead: this frame was read from the capture, and isn't offered to the queue yet.
abbrev pub place_ahead : {A : Type 0} → OpenQueue A → Option (Item (Vec ℕ A))
place_ahead q = slice_get q.places.items q.tail

-- Frame ahead as a packet: the place's frame with its arrival time.
abbrev pub packet_ahead : {A : Type 0} → Option ℕ → Option (Item (Vec ℕ A)) → Option (Packet A)
packet_ahead None place = None
packet_ahead (Some time) place = option_map (λ x. record { time = time; len = x.len; octets = x.load }) place

-- Reader of the queue's capture, as a reader of port 1. The frame that it has read ahead lies in the place that the
-- queue gives to its next frame.
abbrev pub queue_reader : {A : Type 0} → CaptureState → Option ℕ → OpenQueue A → CaptureReader A
queue_reader capture time q = record { number = 1; capture = capture; ahead = packet_ahead time (place_ahead q) }

-- Holds if reading into the place ahead finds the frame after the frames `taken`, the end of the capture, or a fault.
abbrev pub ReadsPlace : {A : Type 0} → CaptureState → OpenQueue A → Option (List ℕ) → List ℕ → List CapturedFrame → Result (Option ℕ) CaptureFault → Type 0
ReadsPlace capture q remaining text taken (Ok time) = IsOneAhead (queue_reader capture time q) remaining text taken
ReadsPlace capture q remaining text taken (Err fault) = IsRefusal fault remaining text taken

-- Captured frame of an item that arrived at time `time` (ns).
abbrev pub arrived_frame : {A : Type 0} → ℕ → Item (Vec ℕ A) → CapturedFrame
arrived_frame time x = record { time = time; len = x.len; octets = x.load.items }

-- Holds if the result is Ok and the run continues with the frame ahead, or the result is the fault with which the run stopped.
abbrev pub ContinuesOrStops : {A : Type 0} → Speed → ℕ → List ℕ → Option (List ℕ) → CaptureState → OpenQueue A → WireCount → Option (List ℕ) → Option (List ℕ) → Result (Option ℕ) RunFault → Type 0
ContinuesOrStops speed room text remaining capture q count began now (Ok time) = IsUnderWay speed room text remaining (queue_reader capture time q) (queue_state q) count began now
ContinuesOrStops speed room text remaining capture q count began now (Err fault) = StopsRun speed room text remaining began now fault

-- Counts with the number of all frames, which is the sum of the other counts.
abbrev pub with_frames : WireCount → WireCount
with_frames count = record count { frames = count.malformed + count.sent + count.full }
