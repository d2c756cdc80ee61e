-- Output captures of a run, one for each port.
use Rattle.std.specs.Prelude.{◌≡◌, ◌≢◌, ℕ, Bool, true, ◌*◌, ◌^◌, ◌<◌, ◌≤◌, nat_eq, All, Option, Some, IfSome, List, [], ◌∷◌, ◌++◌, length, slice_get, Result, Ok, Err, if◌then◌else◌}
use Rattle.std.specs.Io.KnownBytes.{Appends}
use Rattle.bridge_capture.specs.Grammar.{CapturedFrame}
use Rattle.bridge_capture.specs.declared.record.TheConstants.{SNAP_LENGTH}
use Rattle.bridge_capture.specs.WrittenCapture.{written_header, written_text}
use Rattle.bridge_capture.specs.Sinks.{AppendsPrefix}
use Rattle.bridge_config.specs.Model.{Plan}
use Rattle.bridge_capture.specs.Devices.{HasFailed}
use Rattle.bridge_capture.specs.declared.fault.RunFault.{RunFault}
use Rattle.bridge_capture.specs.declared.fault.RunFault.TheVariants as run
use Rattle.bridge_semantics.specs.Events.{Event}
use Rattle.bridge_semantics.specs.NextStarts.{ReachesStart, SendsHead}
use Rattle.bridge_relay.specs.RelayState.{RelayState, RelayStandsFor}
use Rattle.bridge_core.specs.declared.capture_writer.CaptureWriter.{CaptureWriter}

-- Holds if the sink of port `port` ran out of memory. The lists `ports` and `sinks` are in the same order.
abbrev pub IsOutOfMemory : {W : Type 0} → (W → Bool) → List ℕ → ℕ → List W → Type 0
IsOutOfMemory ran_out ports port sinks = HasFailed ran_out ports port sinks

-- The port numbers of the writers of output captures, in list order.
abbrev pub writer_ports : List CaptureWriter → List ℕ
writer_ports [] = []
writer_ports (line ∷ more) = line.number ∷ writer_ports more

-- Holds if frame `c` fits a packet record: time below 2^32 s, length below 2^32 octets, captured octets within length
-- and snap length.
pub record FitsRecord (c : CapturedFrame) : Type 0 where
  pub seconds : c.time < 2 ^ 32 * 10 ^ 9
  pub captured : length c.octets ≤ SNAP_LENGTH
  pub within : length c.octets ≤ c.len
  pub original : c.len < 2 ^ 32

-- Holds if `new` is `old` followed by the capture of `frames`, and each frame fits a packet record. If `old` is unknown
-- (`None`), only the second condition counts.
abbrev pub HasWritten : Option (List ℕ) → Option (List ℕ) → List CapturedFrame → Type 0
HasWritten old new frames = Appends old new (written_text frames) × All FitsRecord frames

-- Holds if the sink of each port `q` contains its old octets, then the capture of the frames `left q`, as `HasWritten` states.
abbrev pub AreWritten : {W : Type 0} → (W → Option (List ℕ)) → List ℕ → List W → List W → (ℕ → List CapturedFrame) → Type 0
AreWritten {W} contents ports olds news left = (i q : ℕ) (old new : W) → slice_get ports i ≡ Some q → slice_get olds i ≡ Some old → slice_get news i ≡ Some new → HasWritten (contents old) (contents new) (left q)

-- Holds if every sink has its whole capture, except the sink of one existing port. That sink has a prefix of the port's
-- capture.
pub record AreWrittenExceptOne {W : Type 0} (contents : W → Option (List ℕ)) (port : ℕ) (ports : List ℕ) (olds news : List W) (left : ℕ → List CapturedFrame) : Type 0 where
  pub place : ℕ
  pub there : slice_get ports place ≡ Some port
  pub others : (i q : ℕ) (old new : W) → slice_get ports i ≡ Some q → q ≢ port → slice_get olds i ≡ Some old → slice_get news i ≡ Some new → Appends (contents old) (contents new) (written_text (left q))
  pub broken : (i : ℕ) (old new : W) → slice_get ports i ≡ Some port → slice_get olds i ≡ Some old → slice_get news i ≡ Some new → AppendsPrefix (contents old) (contents new) (written_text (left port))

-- Holds if the sink of port `port` failed with a prefix of a header. The sinks before it have whole headers, and later
-- sinks are unchanged.
pub record StopsAtHeader {W : Type 0} (contents : W → Option (List ℕ)) (has_failed : W → Bool) (ports : List ℕ) (port : ℕ) (olds news : List W) : Type 0 where
  pub place : ℕ
  pub there : slice_get ports place ≡ Some port
  pub before : (i : ℕ) (old new : W) → i < place → slice_get olds i ≡ Some old → slice_get news i ≡ Some new → Appends (contents old) (contents new) written_header
  pub broken : (old new : W) → slice_get olds place ≡ Some old → slice_get news place ≡ Some new → AppendsPrefix (contents old) (contents new) written_header
  pub failed : (w : W) → slice_get news place ≡ Some w → has_failed w ≡ true
  pub behind : (i : ℕ) → place < i → slice_get news i ≡ slice_get olds i

-- Holds if the fault is a write fault of a port, and writing headers stopped at this port's sink.
abbrev pub StopsAtHeaders : {W : Type 0} → (W → Option (List ℕ)) → (W → Bool) → List ℕ → List W → List W → RunFault → Type 0
StopsAtHeaders contents has_failed ports olds news (run.Write port) = StopsAtHeader contents has_failed ports port olds news
StopsAtHeaders contents has_failed ports olds news fault = ⊥

-- Holds if all departures `left` are written, or writing failed at port `port`, whose sink has a prefix of its capture.
abbrev pub WritesFrame : {W : Type 0} → (W → Option (List ℕ)) → ℕ → List ℕ → List W → List W → (ℕ → List CapturedFrame) → Result (Unit {0}) RunFault → Type 0
WritesFrame contents port ports olds news left (Ok u) = AreWritten contents ports olds news left
WritesFrame contents port ports olds news left (Err (run.Write q)) = (q ≡ port) × AreWrittenExceptOne contents port ports olds news left
WritesFrame contents port ports olds news left (Err fault) = ⊥

-- Holds if port `port` starts a transmission at time `moment` in a run of the events `es`. All earlier transmissions,
-- by time and port, have started. With this transmission, the departures are `left`.
pub record MakesStart {A : Type 0} (p : Plan A) (es : List Event) (moment port : ℕ) (left : ℕ → List CapturedFrame) : Type 0 where
  pub before : ℕ → List CapturedFrame
  pub class : ℕ
  pub frame : CapturedFrame
  pub sends : SendsHead p es before port class moment frame
  pub with_it : (q : ℕ) → left q ≡ (if nat_eq q port then before q ++ frame ∷ [] else before q)
  pub reaches : ReachesStart p es moment port left

-- Holds if a port's sink failed for a transmission that starts at or after time `from` and before `until`. All other
-- departures are written.
pub record StopsAtStart {A W : Type 0} (contents : W → Option (List ℕ)) (p : Plan A) (es : List Event) (from : ℕ) (until : Option ℕ) (port : ℕ) (ports : List ℕ) (olds news : List W) : Type 0 where
  pub left : ℕ → List CapturedFrame
  pub moment : ℕ
  pub late : from ≤ moment
  pub early : IfSome until (λ t. moment < t)
  pub makes : MakesStart p es moment port left
  pub written : AreWrittenExceptOne contents port ports olds news left

-- Holds if the departures before `until` are written, or a sink failed for a transmission that starts at or after
-- `from`.
abbrev pub SendsDueFrames : {G A W : Type 0} → (W → Option (List ℕ)) → Plan A → List Event → ℕ → Option ℕ → RelayState G A → List ℕ → List W → List W → Result (Unit {0}) RunFault → Type 0
SendsDueFrames contents p es from until b ports olds news (Ok u) = (left : ℕ → List CapturedFrame) × RelayStandsFor p b es left × AreWritten contents ports olds news left
SendsDueFrames contents p es from until b ports olds news (Err (run.Write port)) = StopsAtStart contents p es from until port ports olds news
SendsDueFrames contents p es from until b ports olds news (Err fault) = ⊥
