-- Run of `wire`: one capture through one queue.
use Rattle.std.specs.Prelude.{◌≡◌, ◌≢◌, ◌⊎◌, ℕ, Bool, true, ◌+◌, ◌<◌, ◌≤◌, All, not, is_ok, List, [], ◌∷◌, ◌++◌, length, map, filter, reverse, count_by, Option, Some, ◌↔◌}
use Rattle.std.specs.Io.KnownBytes.{Appends, Keeps}
use Rattle.bridge_frame.specs.declared.Speed.{Speed}
use Rattle.bridge_frame.specs.Frames.{parsed_head}
use Rattle.bridge_frame.specs.Link.{transmission_time}
use Rattle.bridge_capture.specs.declared.capture_fault.CaptureFault.{CaptureFault}
use Rattle.bridge_capture.specs.declared.capture_fault.CaptureFault.TheVariants as faults
use Rattle.bridge_capture.specs.Grammar.{CapturedFrame, IsCapture, AtEnd}
use Rattle.bridge_capture.specs.StandsFor.{HasReadFrames, IsRefusal, last_time}
use Rattle.bridge_capture.specs.WrittenCapture.{written_text}
use Rattle.bridge_capture.specs.Sinks.{AppendsPrefix}
use Rattle.bridge_limits.specs.Members.{IsMember}
use Rattle.bridge_limits.specs.declared.TheConstants.{LONGEST_FRAME}
use Rattle.bridge_port.specs.Schedule.{Started, Copy, PortRules, IsLawful, is_accepted}
use Rattle.bridge_port.specs.Solo.{IsFinished}
use Rattle.bridge_capture.specs.CaptureReaders.{HasSoundStart, FailsAtFirst}
use Rattle.bridge_wire.specs.declared.wire_count.WireCount.{WireCount}
use Rattle.bridge_capture.specs.declared.fault.RunFault.{RunFault}
use Rattle.bridge_capture.specs.declared.fault.RunFault.TheVariants as run

-- Frame in a queue: its length in octets, and its captured octets.
pub record Frame : Type 0 where
  pub len : ℕ
  pub octets : List ℕ

-- Offer to a port: a frame for a class at a time in ns.
pub record Offer : Type 0 where
  pub at : ℕ
  pub class : ℕ
  pub frame : Frame

-- Rules of one queue with capacity `room`, always open, on a link of speed `speed`.
abbrev pub one_queue : Speed → ℕ → PortRules Frame
one_queue speed room = record { opens = λ c u. true; ever = λ c n. true; room = λ c. room; occ = λ f. transmission_time f.len speed }

-- True if the captured frame has a header, so that it is offered to the queue.
abbrev pub is_well_formed : CapturedFrame → Bool
is_well_formed c = is_ok (parsed_head c.octets c.len)

-- Offer of a captured frame: at its arrival time, for class 0.
abbrev pub frame_offer : CapturedFrame → Offer
frame_offer c = record { at = c.time; class = 0; frame = record { len = c.len; octets = c.octets } }

-- Offers to the queue by well-formed frames, newest first; malformed frames make none.
abbrev pub frame_offers : List CapturedFrame → List Offer
frame_offers frames = reverse (map frame_offer (filter is_well_formed frames))

-- Offers of the copies of a schedule, without their fates.
abbrev pub copy_offers : List (Copy Frame) → List Offer
copy_offers copies = map (λ x. record { at = x.at; class = x.class; frame = x.item }) copies

-- Frame of a copy that started, with the time at which its transmission ended.
abbrev pub departure : Speed → ℕ → Frame → CapturedFrame
departure speed start frame = record { time = start + transmission_time frame.len speed; len = frame.len; octets = frame.octets }

-- Holds if the frame that left is a copy that started.
pub record IsDeparture (speed : Speed) (copies : List (Copy Frame)) (left : CapturedFrame) : Type 0 where
  pub copy : Copy Frame
  pub start : ℕ
  pub listed : IsMember copy copies
  pub started : copy.fate ≡ Started start
  pub is : left ≡ departure speed start copy.item

-- Holds if each time is later than the time before it.
abbrev pub HasRisingTimes : List CapturedFrame → Type 0
HasRisingTimes [] = Unit {0}
HasRisingTimes (c ∷ []) = Unit {0}
HasRisingTimes (c ∷ d ∷ more) = (c.time < d.time) × HasRisingTimes (d ∷ more)

-- Holds if the frames `left` are the copies that started, by rising time.
pub record IsOutput (speed : Speed) (copies : List (Copy Frame)) (left : List CapturedFrame) : Type 0 where
  pub rises : HasRisingTimes left
  pub members : (d : CapturedFrame) → IsMember d left ↔ IsDeparture speed copies d

-- Holds if the frame is at most as long as the longest frame, and has at most its length in octets.
abbrev pub IsWritable : CapturedFrame → Type 0
IsWritable c = (c.len ≤ LONGEST_FRAME) × (length c.octets ≤ c.len)

-- Holds if the frames passed one queue up to some time, and the frames `left` have left.
pub record PassesQueue (speed : Speed) (room : ℕ) (frames : List CapturedFrame) (copies : List (Copy Frame)) (left : List CapturedFrame) : Type 0 where
  pub offers : copy_offers copies ≡ frame_offers frames
  pub until : ℕ
  pub lawful : IsLawful (one_queue speed room) until copies
  pub output : IsOutput speed copies left

-- Holds if the run is complete: every accepted frame has left, and the counts match the frames and their copies.
pub record IsWireRun (speed : Speed) (room : ℕ) (frames : List CapturedFrame) (left : List CapturedFrame) (count : WireCount) : Type 0 where
  pub copies : List (Copy Frame)
  pub goes : PassesQueue speed room frames copies left
  pub whole : IsFinished copies
  pub short : All IsWritable left
  pub all : count.frames ≡ length frames
  pub malformed : count.malformed ≡ count_by (λ c. not (is_well_formed c)) frames
  pub sent : count.sent ≡ count_by (λ x. is_accepted x.fate) copies
  pub full : count.full ≡ count_by (λ x. not (is_accepted x.fate)) copies

-- Holds if the file contents are a complete capture, and the sink has the capture of the frames that left.
pub record WiresText (speed : Speed) (room : ℕ) (text : List ℕ) (old new : Option (List ℕ)) (count : WireCount) : Type 0 where
  pub frames : List CapturedFrame
  pub left : List CapturedFrame
  pub reads : IsCapture text frames AtEnd
  pub runs : IsWireRun speed room frames left count
  pub writes : Appends old new (written_text left)

-- Holds if, after these frames, the capture ends or its next frame arrives at time `until` or later.
abbrev pub EndsOrContinues : ℕ → List ℕ → List CapturedFrame → Type 0
EndsOrContinues until text frames = IsCapture text frames AtEnd ⊎ ((next : CapturedFrame) × HasReadFrames text (frames ++ next ∷ []) × (until ≤ next.time))

-- Holds if the frames passed one queue up to the arrival of the last one. The sink has the capture of the frames that left.
pub record RunsToLastFrame (speed : Speed) (room : ℕ) (frames : List CapturedFrame) (old new : Option (List ℕ)) : Type 0 where
  pub copies : List (Copy Frame)
  pub left : List CapturedFrame
  pub goes : PassesQueue speed room frames copies left
  pub last : goes.until ≡ last_time 0 frames
  pub writes : Appends old new (written_text left)

-- Holds if reading the capture stopped with this fault after at least one frame. The sink has the frames that left up to the arrival of the
-- last one.
pub record StopsInText (speed : Speed) (room : ℕ) (text : List ℕ) (rest : Option (List ℕ)) (old new : Option (List ℕ)) (fault : CaptureFault) : Type 0 where
  pub frames : List CapturedFrame
  pub some : 1 ≤ length frames
  pub refused : IsRefusal fault rest text frames
  pub up : RunsToLastFrame speed room frames old new

-- Holds if the capture was refused before its first frame, and nothing was written.
pub record FailsAtStart (text : List ℕ) (rest : Option (List ℕ)) (old new : Option (List ℕ)) (fault : CaptureFault) : Type 0 where
  pub looks : FailsAtFirst fault rest text
  pub untouched : Keeps old new

-- Holds if the sink failed at a time between the last frame and the next one. It has a prefix of the capture of the frames that left.
pub record StopsWriting (speed : Speed) (room : ℕ) (text : List ℕ) (old new : Option (List ℕ)) : Type 0 where
  pub frames : List CapturedFrame
  pub copies : List (Copy Frame)
  pub left : List CapturedFrame
  pub goes : PassesQueue speed room frames copies left
  pub from : last_time 0 frames ≤ goes.until
  pub looks : EndsOrContinues goes.until text frames
  pub writes : AppendsPrefix old new (written_text left)

-- Holds if the fault is neither lack of memory nor a failed write.
abbrev pub IsCaptureFault : CaptureFault → Type 0
IsCaptureFault fault = (fault ≢ faults.NoMemory) × (fault ≢ faults.Write)

-- Holds if memory ran out before, in or right after the read of the first record, and nothing was written.
pub record LacksMemory (text : List ℕ) (rest old new : Option (List ℕ)) : Type 0 where
  pub looks : (rest ≡ Some text) ⊎ FailsAtFirst faults.NoMemory rest text ⊎ HasSoundStart text
  pub untouched : Keeps old new

-- Holds if the run stopped for the reason that this fault states; the source still has the octets `rest`.
abbrev pub StopsRun : Speed → ℕ → List ℕ → Option (List ℕ) → Option (List ℕ) → Option (List ℕ) → RunFault → Type 0
StopsRun speed room text rest old new (run.Capture port fault) = IsCaptureFault fault × (FailsAtStart text rest old new fault ⊎ StopsInText speed room text rest old new fault)
StopsRun speed room text rest old new (run.Write port) = StopsWriting speed room text old new
StopsRun speed room text rest old new run.NoMemory = LacksMemory text rest old new ⊎ StopsInText speed room text rest old new faults.NoMemory

-- Holds if a capture fault or a write fault names port 1.
abbrev pub NamesPortOne : RunFault → Type 0
NamesPortOne (run.Capture port fault) = port ≡ 1
NamesPortOne (run.Write port) = port ≡ 1
NamesPortOne run.NoMemory = Unit {0}
