-- Octets that a stream gate with octet limits passes in a span of time.
use Rattle.std.specs.Prelude.{◌≡◌, ℕ, zero, suc, Bool, true, false, ◌+◌, ◌≤◌, nat_le, Option, None, Some, List, [], ◌∷◌, if◌then◌else◌}
use Rattle.std.specs.Ordering.{int_eq}
use Rattle.bridge_cycle.specs.declared.timeline.Turn.{Turn}
use Rattle.bridge_gate.specs.declared.stream_gate.GateAnswer.TheVariants.{Through}
use Rattle.bridge_gate.specs.declared.schedule.GateEntry.{GateEntry}
use Rattle.bridge_groups.specs.GateIntervals.{turn_limit}
use Rattle.bridge_gate.specs.Gates.{Answered, Asked, GateEvent, GateStep, last_frame_time}

-- The octets of the service data units that the stream gate passed at time `u` or later.
abbrev pub recent_passed_octets : ℕ → List GateStep → ℕ
recent_passed_octets u [] = 0
recent_passed_octets u (Answered t n (Through ipv) ∷ ss) = (if nat_le u t then n else 0) + recent_passed_octets u ss
recent_passed_octets u (s ∷ ss) = recent_passed_octets u ss

-- Holds if each interval with an open gate has an octet limit, and intervals with equal starts are equal.
pub record HasOctetLimits (turn_at : ℕ → Option (Turn GateEntry)) : Type 0 where
  pub limited : (t : ℕ) (x : Turn GateEntry) → turn_at t ≡ Some x → x.state.lets ≡ true → (l : ℕ) × (x.state.octets ≡ Some l)
  pub by_start : (t u : ℕ) (x y : Turn GateEntry) → turn_at t ≡ Some x → turn_at u ≡ Some y → x.start ≡ y.start → x ≡ y

-- True if two times lie in one interval, or both in none.
abbrev pub is_same_turn : Option (Turn GateEntry) → Option (Turn GateEntry) → Bool
is_same_turn None None = true
is_same_turn (Some x) (Some y) = int_eq x.start y.start
is_same_turn _ _ = false

-- The sum of the octet limits of the intervals that end in the `w` ns from time `u`.
abbrev pub ended_turn_limits : (ℕ → Option (Turn GateEntry)) → ℕ → ℕ → ℕ
ended_turn_limits turn_at u zero = 0
ended_turn_limits turn_at u (suc w) = ended_turn_limits turn_at u w + (if is_same_turn (turn_at (u + w)) (turn_at (u + suc w)) then 0 else turn_limit (turn_at (u + w)))

-- The sum of the octet limits of all intervals that overlap the `w` ns from time `u`.
abbrev pub octet_budget : (ℕ → Option (Turn GateEntry)) → ℕ → ℕ → ℕ
octet_budget turn_at u w = ended_turn_limits turn_at u w + turn_limit (turn_at (u + w))

-- Holds if no frame arrived at the stream gate earlier than an older one. Events are newest first.
abbrev pub AreGateFramesInOrder : List GateEvent → Type 0
AreGateFramesInOrder [] = Unit {0}
AreGateFramesInOrder (Asked t n ∷ es) = (last_frame_time es ≤ t) × AreGateFramesInOrder es
AreGateFramesInOrder (e ∷ es) = AreGateFramesInOrder es
