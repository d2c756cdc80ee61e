-- Schedule of a port with one queue while its frames leave.
use Rattle.std.specs.Prelude.{◌≡◌, ℕ, Bool, ◌+◌, ◌≤◌, ◌<◌, not, nat_lt, List, [], ◌∷◌, ◌++◌, length, Option, Some, None, Result, Ok, Err, slice_index_or, count_by, Vec, All}
use Rattle.std.specs.List.{flat_map}
use Rattle.std.specs.Io.KnownBytes.{Appends}
use Rattle.bridge_frame.specs.declared.Speed.{Speed}
use Rattle.bridge_capture.specs.Grammar.{CapturedFrame}
use Rattle.bridge_capture.specs.WrittenCapture.{written_frame, written_text}
use Rattle.bridge_capture.specs.Sinks.{AppendsPrefix}
use Rattle.bridge_limits.specs.Members.{IsMember}
use Rattle.bridge_limits.specs.declared.TheConstants.{END_OF_SENDING}
use Rattle.bridge_port.specs.declared.item.Item.{Item}
use Rattle.bridge_port.specs.GateSchedule.{Always}
use Rattle.bridge_port.specs.Schedule.{Copy, is_accepted}
use Rattle.bridge_port.specs.MappedCopies.{map_copies}
use Rattle.bridge_port.specs.StandsFor.{EgressState, StandsFor, HasNoStartEarlier, count_queued}
use Rattle.bridge_wire.specs.declared.wire_count.WireCount.{WireCount}
use Rattle.bridge_capture.specs.declared.fault.RunFault.{RunFault}
use Rattle.bridge_capture.specs.StandsFor.{last_time}
use Rattle.bridge_capture.specs.declared.capture_reader.CaptureReader.{CaptureReader}
use Rattle.bridge_capture.specs.CaptureReaders.{IsOneAhead}
use Rattle.bridge_wire.specs.Wire.{Frame, Offer, copy_offers, frame_offers, is_well_formed, IsWritable, IsOutput, PassesQueue, StopsRun, WiresText}

-- Frame of a queued item: its length and its octets.
abbrev pub item_frame : {A : Type 0} → Item (Vec ℕ A) → Frame
item_frame item = record { len = item.len; octets = item.load.items }

-- True if the item has more octets than its length.
abbrev pub is_overlong : {A : Type 0} → Item (Vec ℕ A) → Bool
is_overlong item = nat_lt item.len (length item.load.items)

-- Holds if all copies have class `c`. A port with one queue uses only class 0.
abbrev pub HaveClass : {X : Type 0} → ℕ → List (Copy X) → Type 0
HaveClass c [] = Unit {0}
HaveClass c (x ∷ xs) = (x.class ≡ c) × HaveClass c xs

-- Holds if the port has no list, this speed, and this capacity for class 0. No queued frame has more octets than its length.
pub record IsOneQueue {A : Type 0} (speed : Speed) (room : ℕ) (p : EgressState (Vec ℕ A)) : Type 0 where
  pub list : p.list ≡ Always
  pub pace : p.speed ≡ speed
  pub places : slice_index_or p.rooms 0 0 ≡ room
  pub within : count_queued is_overlong p ≡ 0

-- Holds if the port received these offers, accepted `sent` copies and dropped `full` copies, and the frames `left` have left.
pub record HasSent {A : Type 0} (p : EgressState (Vec ℕ A)) (offers : List Offer) (sent full : ℕ) (left : List CapturedFrame) : Type 0 where
  pub copies : List (Copy (Item (Vec ℕ A)))
  pub stands : StandsFor p copies
  pub offered_so : copy_offers (map_copies item_frame copies) ≡ offers
  pub class : HaveClass 0 copies
  pub accepted : count_by (λ x. is_accepted x.fate) (map_copies item_frame copies) ≡ sent
  pub refused : count_by (λ x. not (is_accepted x.fate)) (map_copies item_frame copies) ≡ full
  pub output : IsOutput p.speed (map_copies item_frame copies) left
  pub short : All IsWritable left
  pub free : (d : CapturedFrame) → IsMember d left → d.time ≤ p.free

-- Holds if further frames left after the frames `left`. The sink appended their records to its contents `old`, or after a failure a prefix
-- of these records.
abbrev pub WritesDepartures : {A : Type 0} → EgressState (Vec ℕ A) → List Offer → ℕ → ℕ → List CapturedFrame → Option (List ℕ) → Option (List ℕ) → Result (Unit {0}) RunFault → Type 0
WritesDepartures p offers sent full left old new (Ok u) = (gone : List CapturedFrame) × HasSent p offers sent full (left ++ gone) × Appends old new (flat_map written_frame gone)
WritesDepartures p offers sent full left old new (Err e) = (gone : List CapturedFrame) × HasSent p offers sent full (left ++ gone) × AppendsPrefix old new (flat_map written_frame gone)

-- Holds if time `t` isn't after the optional time, which is before END_OF_SENDING.
abbrev pub IsNotEarlier : ℕ → Option ℕ → Type 0
IsNotEarlier t None = Unit {0}
IsNotEarlier t (Some k) = (t ≤ k) × (k < END_OF_SENDING)

-- Holds if, after these frames of a capture, the port, the counts and the sink agree with the frames that left.
pub record IsRunning {A : Type 0} (speed : Speed) (room : ℕ) (frames : List CapturedFrame) (p : EgressState (Vec ℕ A)) (count : WireCount) (began now : Option (List ℕ)) : Type 0 where
  pub left : List CapturedFrame
  pub queue : IsOneQueue speed room p
  pub sends : HasSent p (frame_offers frames) count.sent count.full left
  pub writes : Appends began now (written_text left)
  pub all : count.frames ≡ length frames
  pub malformed : count.malformed ≡ count_by (λ c. not (is_well_formed c)) frames
  pub sums : count.malformed + count.sent + count.full ≡ count.frames
  pub waits : p.earliest ≤ last_time 0 frames
  pub calm : HasNoStartEarlier p (last_time 0 frames)
  pub few : p.offered ≤ count.frames

-- Holds if the sink failed while these frames passed the port, at a time between the last frame and `moment`.
pub record StopsAtSink (speed : Speed) (room : ℕ) (frames : List CapturedFrame) (moment : ℕ) (began now : Option (List ℕ)) : Type 0 where
  pub copies : List (Copy Frame)
  pub left : List CapturedFrame
  pub goes : PassesQueue speed room frames copies left
  pub from : last_time 0 frames ≤ goes.until
  pub within : goes.until ≤ moment
  pub writes : AppendsPrefix began now (written_text left)

-- Holds if the frame `next` was offered or only counted, or the sink failed before that.
abbrev pub RunsOneMore : {A : Type 0} → Speed → ℕ → List CapturedFrame → CapturedFrame → EgressState (Vec ℕ A) → WireCount → Option (List ℕ) → Option (List ℕ) → Result (Unit {0}) RunFault → Type 0
RunsOneMore speed room frames next p count began now (Ok u) = IsRunning speed room (frames ++ next ∷ []) p count began now
RunsOneMore speed room frames next p count began now (Err e) = StopsAtSink speed room frames next.time began now

-- Counts of a run before the first frame: all are 0.
abbrev pub no_count : WireCount
no_count = record { frames = 0; malformed = 0; sent = 0; full = 0 }

-- Holds if a run is in progress. The frames before the next record were offered or counted, the next record is ahead, and the frames that
-- left are written.
pub record IsUnderWay {A : Type 0} (speed : Speed) (room : ℕ) (text : List ℕ) (remaining : Option (List ℕ)) (lane : CaptureReader A) (p : EgressState (Vec ℕ A)) (count : WireCount) (began now : Option (List ℕ)) : Type 0 where
  pub frames : List CapturedFrame
  pub ahead : IsOneAhead lane remaining text frames
  pub running : IsRunning speed room frames p count began now

-- Holds if the result is Ok and the run is complete, or the result is the fault with which the run stopped.
abbrev pub EndsOrStops : Speed → ℕ → List ℕ → Option (List ℕ) → Option (List ℕ) → Option (List ℕ) → Result WireCount RunFault → Type 0
EndsOrStops speed room text rest old new (Ok count) = WiresText speed room text old new count
EndsOrStops speed room text rest old new (Err fault) = StopsRun speed room text rest old new fault
