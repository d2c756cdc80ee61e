-- The ports of a bridge, and their next starts.
use Rattle.std.specs.Prelude.{◌≡◌, ℕ, zero, suc, Bool, true, false, ◌+◌, ◌-◌, ◌<◌, ◌≤◌, ◌&&◌, Option, Some, None, is_none, List, [], ◌∷◌, length, slice_set, slice_index, slice_index_or, if◌then◌else◌, Result, ◌⊎◌}
use Rattle.bridge_limits.specs.declared.TheConstants.{END_OF_SENDING, LONGEST_FRAME, MAX_ARRIVALS}
use Rattle.bridge_frame.specs.Link.{transmission_time}
use Rattle.bridge_forward.specs.Ports.{has_port}
use Rattle.bridge_config.specs.declared.ports.PortPlan.{PortPlan}
use Rattle.bridge_port.specs.declared.item.Item.{Item}
use Rattle.bridge_port.specs.declared.item.Refusal.{Refusal}
use Rattle.bridge_port.specs.Schedule.{Copy}
use Rattle.bridge_port.specs.GateSchedule.{gate_schedule}
use Rattle.bridge_port.specs.StandsFor.{StandsFor, IsNextStartTime, IsNextStart, HasStartedOldest, offer_refusal, offered_copy, count_queued, time_limit}
use Rattle.bridge_semantics.specs.declared.queued_frame.QueuedFrame.{QueuedFrame}
use Rattle.bridge_relay.specs.declared.port_state.PortState.{PortState}
use Rattle.bridge_relay.specs.declared.port_state.StartedFrame.{StartedFrame}
use Rattle.bridge_relay.specs.PortStates.{offered_port, started_port, offer_result}

-- The ports by number from 1, and an agenda with the next start of each port.
pub record PortsState (G A : Type 0) : Type 0 where
  pub slots : List (Option (PortState A))
  pub agenda : G

-- The port with number `q`, counted from 1; `None` if it is missing.
abbrev pub nth_port : {A : Type 0} → List (Option (PortState A)) → ℕ → Option (PortState A)
nth_port slots q = slice_index_or slots (q - 1) None

-- The state of the port with number `q`; `None` if it is missing.
abbrev pub port_state : {G A : Type 0} → PortsState G A → ℕ → Option (PortState A)
port_state p q = nth_port p.slots q

-- Holds if a port's state is consistent. Classes are at most 7, queued and dropped copies add up to the offers, and malformed, unforwarded
-- and unfiltered frames are at most all frames.
pub record IsPortSound {A : Type 0} (s : PortState A) : Type 0 where
  pub classes : (k : ℕ) → k ≤ 7 → slice_index s.classes k < 8
  pub counted : s.count.sent + s.count.dropped ≡ s.port.offered
  pub came : s.count.malformed + s.count.nowhere + s.count.unfiltered ≤ s.count.frames
  pub pace : s.port.speed ≡ s.speed

-- Holds if there are 16 slots with consistent ports, and the agenda has exactly each port's next start.
pub record ArePortsSound {G A : Type 0} (held : G → ℕ → Option ℕ) (slots : List (Option (PortState A))) (agenda : G) : Type 0 where
  pub size : length slots ≡ 16
  pub due : (q : ℕ) (s : PortState A) → 1 ≤ q → nth_port slots q ≡ Some s → IsNextStartTime s.port (held agenda q)
  pub others : (q k : ℕ) → held agenda q ≡ Some k → (1 ≤ q) × ((s : PortState A) × (nth_port slots q ≡ Some s))
  pub each : (q : ℕ) (s : PortState A) → 1 ≤ q → nth_port slots q ≡ Some s → IsPortSound s

-- Holds if no port in the agenda has its next start before time `t` (ns).
abbrev pub StartsNoEarlier : (ℕ → Option ℕ) → ℕ → Type 0
StartsNoEarlier held t = (q k : ℕ) → held q ≡ Some k → t ≤ k

-- Holds if each start in the agenda is after time `t`, or at time `t` on a port above `p`.
abbrev pub HasLaterStarts : (ℕ → Option ℕ) → ℕ → ℕ → Type 0
HasLaterStarts held p t = (q k : ℕ) → held q ≡ Some k → (t < k) ⊎ ((t ≡ k) × (p < q))

-- Holds if port `q` can be offered a copy at time `t`: time doesn't go back, and the limit of arrivals isn't reached.
abbrev pub CanOffer : {G A : Type 0} → PortsState G A → ℕ → ℕ → Type 0
CanOffer {G} {A} p q t = (s : PortState A) → port_state p q ≡ Some s → (s.port.earliest ≤ t) × (s.port.offered < MAX_ARRIVALS)

-- Holds if port `q`, in state `s`, was offered item `x` for class `c` at time `t` (ns), and answered `result`. No other port changed.
pub record HasOffered {G A : Type 0} (old new : PortsState G A) (q : ℕ) (s : PortState A) (t c : ℕ) (x : Item (QueuedFrame A)) (result : Result (Unit {0}) Refusal) : Type 0 where
  pub slots : new.slots ≡ slice_set old.slots (q - 1) (Some (offered_port s t c x))
  pub answer : result ≡ offer_result s c x
  pub stands : (xs : List (Copy (Item (QueuedFrame A)))) → StandsFor s.port xs → StandsFor (offered_port s t c x).port (offered_copy s.port t c x ∷ xs)
  pub counts : (f : Item (QueuedFrame A) → Bool) → count_queued f (offered_port s t c x).port ≡ (if is_none (offer_refusal s.port c x) && f x then 1 else 0) + count_queued f s.port

-- Holds if port `q`, in state `s`, started its next transmission `b` at time `k` (ns). No other port changed.
pub record HasStarted {G A : Type 0} (old new : PortsState G A) (q : ℕ) (s : PortState A) (k : ℕ) (b : StartedFrame A) : Type 0 where
  pub from : 1 ≤ q
  pub there : port_state old q ≡ Some s
  pub slots : new.slots ≡ slice_set old.slots (q - 1) (Some (started_port s k b.class b.item))
  pub next : IsNextStart s.port k b.class b.item
  pub stands : (xs : List (Copy (Item (QueuedFrame A)))) → StandsFor s.port xs → HasStartedOldest (started_port s k b.class b.item).port b.class k b.item xs
  pub counts : (f : Item (QueuedFrame A) → Bool) → count_queued f s.port ≡ (if f b.item then 1 else 0) + count_queued f (started_port s k b.class b.item).port
  pub done : b.done ≡ k + transmission_time b.item.len s.speed
  pub bounded : b.done < time_limit (s.port.started + 1)
  pub early : b.done < END_OF_SENDING
  pub short : b.item.len ≤ LONGEST_FRAME

-- The VLAN and the priority of a port's untagged frames; `None` if the port is missing.
abbrev pub ingress_defaults : {A : Type 0} → Option (PortState A) → Option (ℕ × ℕ)
ingress_defaults None = None
ingress_defaults (Some s) = Some (s.vid, s.priority)

-- True if the optional value is present.
abbrev pub is_present : {X : Type 0} → Option X → Bool
is_present None = false
is_present (Some x) = true

-- Holds if `set` is the set of the ports that exist.
abbrev pub IsPresentSet : {A : Type 0} → List (Option (PortState A)) → ℕ → Type 0
IsPresentSet slots set = (q : ℕ) → 1 ≤ q → q ≤ 16 → has_port set q ≡ is_present (nth_port slots q)

-- True if a frame with the egress ports `set` leaves by port `q`: the set has the port, and the port exists.
abbrev pub is_output : {A : Type 0} → List (Option (PortState A)) → ℕ → ℕ → Bool
is_output slots set q = has_port set q && is_present (nth_port slots q)

-- The number of ports from 1 to `n` that exist and are in `set`.
abbrev pub count_outputs : {A : Type 0} → List (Option (PortState A)) → ℕ → ℕ → ℕ
count_outputs slots set zero = 0
count_outputs slots set (suc n) = count_outputs slots set n + (if is_output slots set (n + 1) then 1 else 0)

-- Holds if `last` is the highest port that exists and is in the set, or 0 if there is none.
pub record IsLastOutput {A : Type 0} (slots : List (Option (PortState A))) (set last : ℕ) : Type 0 where
  pub is_in : 0 < last → (last ≤ 16) × (is_output slots set last ≡ true)
  pub none_after : (q : ℕ) → last < q → q ≤ 16 → is_output slots set q ≡ false

-- Holds if port state `s` has the settings of the plan's port `out`.
pub record IsMadeByPlan {A : Type 0} (out : PortPlan A) (s : PortState A) : Type 0 where
  pub speed : s.speed ≡ out.speed
  pub vid : s.vid ≡ out.vid
  pub priority : s.priority ≡ out.priority
  pub classes : s.classes ≡ out.classes
  pub pace : s.port.speed ≡ out.speed
  pub list : s.port.list ≡ gate_schedule out.list
  pub rooms : s.port.rooms ≡ out.rooms

-- Holds if the port's state and its plan are both missing, or the state has the plan's settings.
abbrev pub MatchesPlan : {A : Type 0} → Option (PortPlan A) → Option (PortState A) → Type 0
MatchesPlan None None = Unit {0}
MatchesPlan None (Some s) = ⊥
MatchesPlan (Some out) None = ⊥
MatchesPlan (Some out) (Some s) = IsMadeByPlan out s

-- Holds if no frame has arrived at port `s`, and no copy was offered to it.
pub record IsIdlePort {A : Type 0} (s : PortState A) : Type 0 where
  pub stands : StandsFor s.port []
  pub idle : IsNextStartTime s.port None
  pub earliest : s.port.earliest ≡ 0
  pub offered : s.port.offered ≡ 0
  pub started : s.port.started ≡ 0
  pub empty : (f : Item (QueuedFrame A) → Bool) → count_queued f s.port ≡ 0
  pub count : s.count ≡ record { frames = 0; malformed = 0; nowhere = 0; unfiltered = 0; sent = 0; dropped = 0 }

-- Holds if the port's state and its plan are both missing, or the state is the plan's port before any event.
abbrev pub IsInitialPort : {A : Type 0} → Option (PortPlan A) → Option (PortState A) → Type 0
IsInitialPort None None = Unit {0}
IsInitialPort None (Some s) = ⊥
IsInitialPort (Some out) None = ⊥
IsInitialPort (Some out) (Some s) = IsMadeByPlan out s × IsIdlePort s
