-- When a stream gate stands for a list of events.
use Rattle.std.specs.Prelude.{◌≡◌, ℕ, ℤ, Bool, ◌<◌, ◌≤◌, ◌+◌, ◌&&◌, not, ◌≤ℤ◌, Option, Some, None, List, if◌then◌else◌}
use Rattle.std.specs.Ordering.{int_eq}
use Rattle.bridge_cycle.specs.declared.timeline.Turn.{Turn}
use Rattle.bridge_gate.specs.declared.schedule.GateEntry.{GateEntry}
use Rattle.bridge_gate.specs.declared.schedule.GatePlan.{GatePlan}
use Rattle.bridge_gate.specs.declared.stream_gate.GateAnswer.{GateAnswer}
use Rattle.bridge_gate.specs.declared.stream_gate.GateAnswer.TheVariants.{Through, Closed, ShutByRx, ShutByOctets, OctetsExceeded}
use Rattle.bridge_gate.specs.Gates.{GateRules, GateEvent, is_shut_by_rx, is_shut_by_octets, octets_in_turn, is_over_limit, gate_steps, last_frame_time}
use Rattle.bridge_gate.specs.Schedules.{gate_rules}

-- State of a stream gate: plan, receive flag, octets flag, SDU octets `count` passed in the interval that started at
-- `start`, and last arrival time.
pub record GateState (A : Type 0) : Type 0 where
  pub plan : GatePlan A
  pub rx : Bool
  pub octets : Bool
  pub start : ℤ
  pub count : ℕ
  pub earliest : ℕ

-- Octets that the gate has counted in the interval that started at time `z`.
abbrev pub counted_octets : {A : Type 0} → GateState A → ℤ → ℕ
counted_octets g z = if int_eq g.start z then g.count else 0

-- Holds if the gate has these rules, and its flags, count and last arrival time are the result of the events, newest first.
pub record StandsFor {A : Type 0} (r : GateRules) (g : GateState A) (es : List GateEvent) : Type 0 where
  pub rules_are : gate_rules g.plan ≡ r
  pub rx : g.rx ≡ r.shut_on_rx && is_shut_by_rx (gate_steps r es)
  pub octets : g.octets ≡ r.shut_on_octets && is_shut_by_octets (gate_steps r es)
  pub last : g.earliest ≡ last_frame_time es
  pub counted : (t : ℕ) (x : Turn GateEntry) (limit : ℕ) → g.earliest ≤ t → r.turn_at t ≡ Some x → x.state.octets ≡ Some limit → octets_in_turn r.turn_at x.start (gate_steps r es) ≡ counted_octets g x.start
  pub begun : (t : ℕ) (x : Turn GateEntry) → 0 < g.count → g.earliest ≤ t → r.turn_at t ≡ Some x → g.start ≤ℤ x.start

-- Answer of the gate to a frame in interval `x`, from its flags and its count.
abbrev pub state_answer : {A : Type 0} → GateState A → Turn GateEntry → ℕ → GateAnswer
state_answer g x sdu =
    if g.rx then ShutByRx
    else if g.octets then ShutByOctets
    else if not x.state.lets then Closed
    else if is_over_limit x.state.octets (counted_octets g x.start + sdu) then OctetsExceeded
    else Through x.state.ipv

-- Gate after a frame that passed at time `t`. With an octet limit, `n` octets have passed in the interval from `z`;
-- without a limit (`None`), the count stays.
abbrev pub gate_after_counting : {A : Type 0} → GateState A → ℕ → ℤ → ℕ → Option ℕ → GateState A
gate_after_counting g t z n None = record g { earliest = t }
gate_after_counting g t z n (Some limit) = record g { start = z; count = n; earliest = t }

-- Gate after this answer: a passing frame counts, and a refusal may set a flag.
abbrev pub gate_after_answer : {A : Type 0} → GateState A → ℕ → Turn GateEntry → ℕ → GateAnswer → GateState A
gate_after_answer g t x sdu (Through ipv) = gate_after_counting g t x.start (counted_octets g x.start + sdu) x.state.octets
gate_after_answer g t x sdu Closed = record g { rx = g.plan.shut_on_rx; earliest = t }
gate_after_answer g t x sdu OctetsExceeded = record g { octets = g.plan.shut_on_octets; earliest = t }
gate_after_answer g t x sdu a = record g { earliest = t }
