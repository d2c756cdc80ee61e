-- The answers of a stream gate (IEEE 802.1Q-2018, 8.6.5.1.2).
use Rattle.std.specs.Prelude.{ℕ, ℤ, Bool, true, false, ◌+◌, ◌&&◌, not, nat_lt, Option, Some, None, List, [], ◌∷◌, if◌then◌else◌}
use Rattle.std.specs.Ordering.{int_eq}
use Rattle.bridge_cycle.specs.declared.timeline.Turn.{Turn}
use Rattle.bridge_gate.specs.declared.schedule.GateEntry.{GateEntry}
use Rattle.bridge_gate.specs.declared.stream_gate.GateAnswer.{GateAnswer}
use Rattle.bridge_gate.specs.declared.stream_gate.GateAnswer.TheVariants.{Through, Closed, ShutByRx, ShutByOctets, OctetsExceeded}

-- Event at a stream gate: a frame (arrival time in ns, SDU octets), or a command that clears the receive flag or the
-- octets flag.
pub data GateEvent : Type 0 where
  Asked : (at sdu : ℕ) → GateEvent
  ClearedRx : GateEvent
  ClearedOctets : GateEvent

-- Rules of a stream gate: its interval at each time, and whether a frame at a closed gate or an exceeded octet limit
-- shuts it.
pub record GateRules : Type 0 where
  pub turn_at : ℕ → Option (Turn GateEntry)
  pub shut_on_rx : Bool
  pub shut_on_octets : Bool

-- Result of an event at a stream gate: the answer to a frame (arrival time in ns, SDU octets), or the flag that was
-- cleared.
pub data GateStep : Type 0 where
  Answered : (at sdu : ℕ) → GateAnswer → GateStep
  RxCleared : GateStep
  OctetsCleared : GateStep

-- True if a frame arrived at the closed gate (answer Closed) and no later command cleared the receive flag; the list is
-- newest first.
abbrev pub is_shut_by_rx : List GateStep → Bool
is_shut_by_rx [] = false
is_shut_by_rx (Answered t n Closed ∷ ss) = true
is_shut_by_rx (Answered t n a ∷ ss) = is_shut_by_rx ss
is_shut_by_rx (RxCleared ∷ ss) = false
is_shut_by_rx (OctetsCleared ∷ ss) = is_shut_by_rx ss

-- True if a frame got the answer OctetsExceeded and no later command cleared the octets flag; the list is newest first.
abbrev pub is_shut_by_octets : List GateStep → Bool
is_shut_by_octets [] = false
is_shut_by_octets (Answered t n OctetsExceeded ∷ ss) = true
is_shut_by_octets (Answered t n a ∷ ss) = is_shut_by_octets ss
is_shut_by_octets (RxCleared ∷ ss) = is_shut_by_octets ss
is_shut_by_octets (OctetsCleared ∷ ss) = false

-- True if the interval starts at time `z`, in ns; false if there is no interval (`None`).
abbrev pub is_turn_start : Option (Turn GateEntry) → ℤ → Bool
is_turn_start None z = false
is_turn_start (Some x) z = int_eq x.start z

-- Number of SDU octets of all earlier frames that passed the gate in the interval that started at time `z`, in ns.
abbrev pub octets_in_turn : (ℕ → Option (Turn GateEntry)) → ℤ → List GateStep → ℕ
octets_in_turn turn_at z [] = 0
octets_in_turn turn_at z (Answered t n (Through ipv) ∷ ss) = (if is_turn_start (turn_at t) z then n else 0) + octets_in_turn turn_at z ss
octets_in_turn turn_at z (s ∷ ss) = octets_in_turn turn_at z ss

-- True if `n` octets are more than the octet limit of an interval; false if the interval has no limit (`None`).
abbrev pub is_over_limit : Option ℕ → ℕ → Bool
is_over_limit None n = false
is_over_limit (Some limit) n = nat_lt limit n

-- Answer of a gate without set flags. Closed: the interval is closed or absent. OctetsExceeded: with this frame, the
-- interval exceeds its octet limit. Otherwise Through, with the interval's internal priority value.
abbrev pub turn_answer : GateRules → List GateStep → ℕ → Option (Turn GateEntry) → GateAnswer
turn_answer r ss sdu None = Closed
turn_answer r ss sdu (Some x) =
    if not x.state.lets then Closed
    else if is_over_limit x.state.octets (octets_in_turn r.turn_at x.start ss + sdu) then OctetsExceeded
    else Through x.state.ipv

-- Answer of a gate at time `t` to a frame of `sdu` SDU octets: refusal if an enabled flag is set, otherwise by the
-- interval.
abbrev pub answer : GateRules → List GateStep → ℕ → ℕ → GateAnswer
answer r ss t sdu =
    if r.shut_on_rx && is_shut_by_rx ss then ShutByRx
    else if r.shut_on_octets && is_shut_by_octets ss then ShutByOctets
    else turn_answer r ss sdu (r.turn_at t)

-- List of results, one for each event at a stream gate, newest first; the answer to a frame depends on all earlier
-- results.
abbrev pub gate_steps : GateRules → List GateEvent → List GateStep
gate_steps r [] = []
gate_steps r (Asked t n ∷ es) = Answered t n (answer r (gate_steps r es) t n) ∷ gate_steps r es
gate_steps r (ClearedRx ∷ es) = RxCleared ∷ gate_steps r es
gate_steps r (ClearedOctets ∷ es) = OctetsCleared ∷ gate_steps r es

-- Arrival time in ns of the newest frame, or 0 before the first frame.
abbrev pub last_frame_time : List GateEvent → ℕ
last_frame_time [] = 0
last_frame_time (Asked t n ∷ es) = t
last_frame_time (e ∷ es) = last_frame_time es
