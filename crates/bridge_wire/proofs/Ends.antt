-- Start and end of a run.
use Rattle.std.proofs.Common.{inl, inr, ◌≡◌, ◌+◌, ℕ, ◌≤◌, List, [], ◌∷◌, ◌++◌, length, refl, ap, ◌∙◌, sym, subst, arith, Option, Some, None, Result}
use Rattle.std.specs.Prelude.{Ok, Err, IfOk, IfErr, ◌≢◌, replicate, Vec, slice_index_or}
use Rattle.std.specs.List.{flat_map}
use Rattle.std.specs.Io.KnownBytes.{Appends, Keeps}
use Rattle.std.proofs.KnownBytes.{Appends-trans}
use Rattle.std.proofs.lemmas.Option.{none-some}
use Rattle.bridge_frame.specs.declared.Speed.{Speed}
use Rattle.bridge_capture.specs.declared.packet.Packet.{Packet}
use Rattle.bridge_capture.specs.Grammar.{CapturedFrame}
use Rattle.bridge_capture.specs.StandsFor.{last_time, records_left, IsRefusal}
use Rattle.bridge_capture.specs.Reading.{packet_frame}
use Rattle.bridge_capture.specs.declared.capture_fault.CaptureFault.{CaptureFault}
use Rattle.bridge_capture.specs.declared.capture_fault.CaptureFault.TheVariants as faults
use Rattle.bridge_capture.specs.WrittenCapture.{written_frame, written_text, written_header}
use Rattle.bridge_capture.proofs.Written.{written_more}
use Rattle.bridge_capture.specs.Sinks.{AppendsPrefix}
use Rattle.bridge_port.specs.GateSchedule.{Always}
use Rattle.bridge_port.specs.MappedCopies.{map_copies}
use Rattle.bridge_port.specs.StandsFor.{EgressState, StandsFor, IsNextStartTime, IsIdle}
use Rattle.bridge_port.proofs.Ports.{idle_whole}
use Rattle.bridge_port.proofs.Watched.{whole_seen}
use Rattle.bridge_wire.specs.declared.wire_count.WireCount.{WireCount}
use Rattle.bridge_capture.specs.declared.capture_reader.CaptureReader.{CaptureReader}
use Rattle.bridge_capture.specs.CaptureReaders.{FailsAtFirst, FindsNext, run_fault}
use Rattle.bridge_capture.specs.CaptureReaders.{frames_left as room_ahead}
use Rattle.bridge_wire.specs.Wire.{frame_offers, IsOutput, RunsToLastFrame, IsWireRun, EndsOrContinues, StopsRun, StopsWriting, LacksMemory, WiresText}
use Rattle.bridge_capture.specs.declared.fault.RunFault.{RunFault}
use Rattle.bridge_wire.specs.Departures.{EndsOrStops, item_frame, no_count, IsNotEarlier, IsRunning, IsUnderWay, HasSent, StopsAtSink}
use Rattle.bridge_wire.proofs.Running.{goes_until, is_up_to, stops_after, HasGone}

-- New port with one queue.
abbrev pub new_port : {A : Type 0} → Speed → ℕ → EgressState (Vec ℕ A)
new_port speed room = record { speed = speed; list = Always; rooms = room ∷ 1 ∷ 1 ∷ 1 ∷ 1 ∷ 1 ∷ 1 ∷ 1 ∷ []; queues = replicate 8 []; free = 0; earliest = 0; offered = 0; started = 0 }

none_left : (speed : Speed) → IsOutput speed [] []
none_left speed = record { rises = tt; members = λ d. ((λ h. absurd h), (λ h. absurd h.listed)) }

running_begin : {A : Type 0} (speed : Speed) (room : ℕ) (began now : Option (List ℕ)) → StandsFor {T = Vec ℕ A} (new_port speed room) [] → Appends began now written_header → IsRunning {A = A} speed room [] (new_port speed room) no_count began now
running_begin speed room began now stands header = record {
  left = [];
  queue = record { list = refl; pace = refl; places = refl; within = refl };
  sends = record { copies = []; stands = stands; offered_so = refl; class = tt; accepted = refl; refused = refl; output = none_left speed; short = λ k d h. absurd (omega arith); free = λ d h. absurd h };
  writes = header;
  all = refl;
  malformed = refl;
  sums = refl;
  waits = omega arith;
  calm = λ c x rest is u from free below fits. absurd (omega arith);
  few = omega arith;
}

pub running_new : {A : Type 0} (speed : Speed) (room : ℕ) (p : EgressState (Vec ℕ A)) (began now : Option (List ℕ)) → p ≡ new_port speed room → StandsFor p [] → Appends began now written_header → IsRunning speed room [] p no_count began now
running_new {A} speed room p began now new stands header =
    subst (λ (q : EgressState (Vec ℕ A)). IsRunning speed room [] q no_count began now) (sym new) (running_begin speed room began now (subst (λ (q : EgressState (Vec ℕ A)). StandsFor q []) new stands) header)

length_some : {X : Type 0} (xs : List X) (x : X) → 1 ≤ length (xs ++ x ∷ [])
length_some [] x = omega arith
length_some (y ∷ xs) x = omega arith

stops_at : (speed : Speed) (room : ℕ) (text : List ℕ) (rest : Option (List ℕ)) (frames : List CapturedFrame) (began now : Option (List ℕ)) (fault : CaptureFault) → fault ≢ faults.Write → 1 ≤ length frames → IsRefusal fault rest text frames → RunsToLastFrame speed room frames began now → StopsRun speed room text rest began now (run_fault 1 fault)
stops_at speed room text rest frames began now faults.NoMemory own some refused up = inr (record { frames = frames; some = some; refused = refused; up = up })
stops_at speed room text rest frames began now fault own some refused up = ((λ e. absurd (cc), own), inr (record { frames = frames; some = some; refused = refused; up = up }))

kept : (old : Option (List ℕ)) → Keeps old old
kept None = tt
kept (Some x) = refl

-- If the first record is refused, nothing is written.
pub refuses_first : (speed : Speed) (room : ℕ) (text : List ℕ) (rest old : Option (List ℕ)) (fault : CaptureFault) → fault ≢ faults.Write → FailsAtFirst fault rest text → StopsRun speed room text rest old old (run_fault 1 fault)
refuses_first speed room text rest old faults.NoMemory own looks = inl (record { looks = inr (inl looks); untouched = kept old })
refuses_first speed room text rest old fault own looks = ((λ e. absurd (cc), own), inl (record { looks = looks; untouched = kept old }))

-- If memory runs out after the first record was read, nothing is written.
pub wants_behind : {A : Type 0} (text : List ℕ) (rest old : Option (List ℕ)) (ahead : Option (Packet A)) → FindsNext text [] ahead → LacksMemory text rest old old
wants_behind text rest old None finds = record { looks = inr (inr (inl finds)); untouched = kept old }
wants_behind text rest old (Some p) finds = record { looks = inr (inr (inr (packet_frame p, finds))); untouched = kept old }

-- After the frames, the capture ends, or its next frame arrives at this time or later.
pub finds_from : {A : Type 0} (until : ℕ) (text : List ℕ) (frames : List CapturedFrame) (ahead : Option (Packet A)) → FindsNext text frames ahead → ((p : Packet A) → ahead ≡ Some p → until ≤ p.time) → EndsOrContinues until text frames
finds_from until text frames None finds late = inl finds
finds_from until text frames (Some p) finds late = inr (packet_frame p, finds, late p refl)

-- The sink fails in the header.
pub stops_at_header : {A : Type 0} (speed : Speed) (room : ℕ) (text : List ℕ) (ahead : Option (Packet A)) (began now : Option (List ℕ)) → FindsNext text [] ahead → AppendsPrefix began now written_header → StopsWriting speed room text began now
stops_at_header speed room text ahead began now finds front = record {
  frames = [];
  copies = [];
  left = [];
  goes = record {
    offers = refl;
    until = 0;
    lawful = record { offers = tt; answers = tt; starts = tt; apart = tt; in_turn = tt; none_missed = λ u below free c p is fits. absurd (none-some p is) };
    output = none_left speed;
  };
  from = omega arith;
  looks = finds_from 0 text [] ahead finds (λ p e. omega arith);
  writes = front;
}

-- The sink fails while frames leave.
pub stops_writing : (speed : Speed) (room : ℕ) (text : List ℕ) (frames : List CapturedFrame) (moment : ℕ) (began now : Option (List ℕ)) → (s : StopsAtSink speed room frames moment began now) → EndsOrContinues s.goes.until text frames → StopsWriting speed room text began now
stops_writing speed room text frames moment began now s looks = record { frames = frames; copies = s.copies; left = s.left; goes = s.goes; from = s.from; looks = looks; writes = s.writes }

-- The capture is refused after the frames that were read.
pub stops_behind : {A : Type 0} (speed : Speed) (room : ℕ) (text : List ℕ) (rest : Option (List ℕ)) (frames : List CapturedFrame) (c : CapturedFrame) (p : EgressState (Vec ℕ A)) (count : WireCount) (began now : Option (List ℕ)) (fault : CaptureFault) → fault ≢ faults.Write → IsRefusal fault rest text (frames ++ c ∷ []) → IsRunning speed room (frames ++ c ∷ []) p count began now → StopsRun speed room text rest began now (run_fault 1 fault)
stops_behind {A} speed room text rest frames c p count began now fault own refused r =
    stops_at speed room text rest (frames ++ c ∷ []) began now fault own (length_some frames c) refused (is_up_to speed room (frames ++ c ∷ []) p count began now r)

-- A port whose next start is very late is idle.
pub idle_late : {T : Type 0} (p : EgressState T) (t : ℕ) (next : Option ℕ) → IsNextStartTime p next → IsNotEarlier t next → 4100000000000000000 ≤ t → IsIdle p
idle_late p t None due n late = due
idle_late p t (Some k) due n late = absurd (let a = n.0 in let b = n.1 in omega arith)

-- All frames passed the queue, and all accepted frames left.
pub run_ends : {A : Type 0} (speed : Speed) (room : ℕ) (frames : List CapturedFrame) (old new : EgressState (Vec ℕ A)) (count : WireCount) (began now after : Option (List ℕ)) → IsRunning speed room frames old count began now → HasGone old new now after → IsIdle new → (left : List CapturedFrame) × IsWireRun speed room frames left count × Appends began after (written_text left)
run_ends speed room frames old new count began now after r gone idle =
    let g = gone.goes (frame_offers frames) count.sent count.full r.left r.sends in
    let s = g.1 in
    let list = gone.list ∙ r.queue.list in
    let pace = gone.speed ∙ r.queue.pace in
    let places = ap (λ l. slice_index_or l 0 0) gone.rooms ∙ r.queue.places in (
      r.left ++ g.0,
      record {
        copies = map_copies item_frame s.copies;
        goes = (goes_until speed room frames new count.sent count.full (r.left ++ g.0) new.earliest list pace places s s.stands.lawful).0;
        whole = whole_seen item_frame s.copies (idle_whole new s.copies s.stands idle);
        short = s.short;
        all = r.all;
        malformed = r.malformed;
        sent = sym s.accepted;
        full = sym s.refused;
      },
      subst (Appends began after) (sym (written_more r.left g.0)) (Appends-trans began now after (written_text r.left) (flat_map written_frame g.0) r.writes g.2),
    )

-- Number of records that a reader can still return if it has a frame ahead.
pub room_some : {A : Type 0} (lane : CaptureReader A) (p : Packet A) → lane.ahead ≡ Some p → room_ahead lane ≡ records_left lane.capture + 1
room_some lane p e = rw e refl

-- A run ends if the capture ends and all accepted frames left.
pub wires_all : {A : Type 0} (speed : Speed) (room : ℕ) (text : List ℕ) (remaining : Option (List ℕ)) (lane : CaptureReader A) (old new : EgressState (Vec ℕ A)) (count : WireCount) (began now after : Option (List ℕ)) → IsUnderWay speed room text remaining lane old count began now → lane.ahead ≡ None → HasGone old new now after → IsIdle new → WiresText speed room text began after count
wires_all speed room text remaining lane old new count began now after u none gone idle =
    let e = run_ends speed room u.frames old new count began now after u.running gone idle in
    record { frames = u.frames; left = e.0; reads = subst (FindsNext text u.frames) none u.ahead.finds; runs = e.1; writes = e.2 }

-- The sink fails while the last frames leave.
pub stops_at_end : {A : Type 0} (speed : Speed) (room : ℕ) (text : List ℕ) (remaining : Option (List ℕ)) (lane : CaptureReader A) (old new : EgressState (Vec ℕ A)) (count : WireCount) (began now after : Option (List ℕ)) (u : IsUnderWay speed room text remaining lane old count began now) → lane.ahead ≡ None → new.list ≡ old.list → new.speed ≡ old.speed → new.rooms ≡ old.rooms → last_time 0 u.frames ≤ new.earliest → (gone : List CapturedFrame) → HasSent new (frame_offers u.frames) count.sent count.full (u.running.left ++ gone) → AppendsPrefix now after (flat_map written_frame gone) → StopsWriting speed room text began after
stops_at_end speed room text remaining lane old new count began now after u none list pace places from gone s front =
    let stops = stops_after speed room u.frames old new count new.earliest began now after u.running list pace places from (omega arith) gone s front in
    stops_writing speed room text u.frames new.earliest began after stops (inl (subst (FindsNext text u.frames) none u.ahead.finds))

pub ends_ok : (speed : Speed) (room : ℕ) (text : List ℕ) (rest old new : Option (List ℕ)) (r : Result WireCount RunFault) → EndsOrStops speed room text rest old new r → IfOk r (WiresText speed room text old new)
ends_ok speed room text rest old new (Ok count) e = e
ends_ok speed room text rest old new (Err fault) e = tt

pub ends_err : (speed : Speed) (room : ℕ) (text : List ℕ) (rest old new : Option (List ℕ)) (r : Result WireCount RunFault) → EndsOrStops speed room text rest old new r → IfErr r (StopsRun speed room text rest old new)
ends_err speed room text rest old new (Ok count) e = tt
ends_err speed room text rest old new (Err fault) e = e
