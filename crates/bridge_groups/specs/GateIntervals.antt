-- Intervals in which a stream gate is open, and the work that its octet limits allow.
use Rattle.std.specs.Prelude.{◌≡◌, ℕ, zero, suc, Bool, true, false, ◌+◌, ◌*◌, ◌/◌, ◌<◌, ◌≤◌, ◌&&◌, max, nat_eq, not, unwrap_or, Option, None, Some, if◌then◌else◌}
use Rattle.bridge_cycle.specs.Cyclic.{Cyclic, turn_by_time}
use Rattle.bridge_cycle.specs.declared.timeline.Turn.{Turn}
use Rattle.bridge_gate.specs.declared.schedule.GateEntry.{GateEntry}
use Rattle.bridge_groups.specs.IntervalWork.{LeavesBy}
use Rattle.bridge_groups.specs.declared.openings.Opening.{Opening}
use Rattle.bridge_groups.specs.declared.opening_bound.GateDelays.{GateDelays}

-- The end of an interval in ns; 0 if there is no interval (`None`).
abbrev pub turn_end : Option (Turn GateEntry) → ℕ
turn_end None = 0
turn_end (Some x) = x.end

-- True if the stream gate is open in the interval; false if there is no interval (`None`).
abbrev pub is_open_turn : Option (Turn GateEntry) → Bool
is_open_turn None = false
is_open_turn (Some x) = x.state.lets

-- The octet limit of an open interval; 0 if the gate is closed or has no limit.
abbrev pub turn_limit : Option (Turn GateEntry) → ℕ
turn_limit None = 0
turn_limit (Some x) = if x.state.lets then unwrap_or x.state.octets 0 else 0

-- The most transmission time in ns of the frames that pass in an interval. Each `share` octets of their SDUs take at most `least` ns.
abbrev pub turn_work : ℕ → ℕ → Option (Turn GateEntry) → ℕ
turn_work least share turn = least * turn_limit turn / share

-- True if the stream gate of list `l` is open at time `t` in ns.
abbrev pub gate_opens : Cyclic GateEntry → ℕ → Bool
gate_opens l t = is_open_turn (turn_by_time l t)

-- The latest time in ns, at most `t`, at which an open interval of list `l` starts; 0 if there is none.
abbrev pub last_opening : Cyclic GateEntry → ℕ → ℕ
last_opening l zero = 0
last_opening l (suc t) = if is_open_turn (turn_by_time l (suc t)) && not (nat_eq (turn_end (turn_by_time l t)) (turn_end (turn_by_time l (suc t)))) then suc t else last_opening l t

-- The most transmission time in ns of the frames that pass in the interval of list `l` that contains time `z`. Each `share` octets of SDUs
-- take at most `least` ns.
abbrev pub opening_work : Cyclic GateEntry → ℕ → ℕ → ℕ → ℕ
opening_work l least share z = turn_work least share (turn_by_time l z)

-- Holds if an interval of list `l` starts at time `z`, or `z` is 0.
abbrev pub IsTurnStart : Cyclic GateEntry → ℕ → Type 0
IsTurnStart l z = (t : ℕ) → suc t ≡ z → turn_end (turn_by_time l t) ≡ z

-- Holds if `o` is the first open interval of list `l` that starts at time `from` or later.
pub record IsNextOpening (l : Cyclic GateEntry) (from : ℕ) (o : Opening) : Type 0 where
  pub after : from ≤ o.start
  pub turn : turn_by_time l o.start ≡ Some o.turn
  pub lets : o.turn.state.lets ≡ true
  pub starts : IsTurnStart l o.start
  pub shut : (t : ℕ) → from ≤ t → t < o.start → gate_opens l t ≡ false

-- Holds if the work of the open interval at time `t` leaves (LeavesBy) within `b` ns, and at most `needed` ns after each later opening.
-- Earlier work left `carry` ns after this interval's start.
pub record LeavesInTime (opens : ℕ → Bool) (occ least share : ℕ) (l : Cyclic GateEntry) (carry b needed t : ℕ) : Type 0 where
  pub in_time : LeavesBy opens occ least (opening_work l least share (last_opening l t)) (max (last_opening l t + carry) t) (t + b)
  pub clears : (u : ℕ) → t < last_opening l u → LeavesBy opens occ least (opening_work l least share (last_opening l t)) (max (last_opening l t + carry) t) (last_opening l u + needed)

-- Holds if `LeavesInTime` holds at each time from `from` to `until` - 1 at which the stream gate is open. Intervals with less than `least`
-- ns of work don't count.
abbrev pub LeaveInTime : (ℕ → Bool) → ℕ → ℕ → ℕ → Cyclic GateEntry → ℕ → ℕ → ℕ → ℕ → ℕ → Type 0
LeaveInTime opens occ least share l carry b needed from until =
    (t : ℕ) → from ≤ t → t < until → gate_opens l t ≡ true → least ≤ opening_work l least share (last_opening l t) → LeavesInTime opens occ least share l carry b needed t

-- Holds if the delays `d` cover open interval `o`. Its work leaves at most `d.longest` ns after its arrival, and at most `d.carry` ns after
-- the next opening `next`.
--
-- Work of earlier intervals left `carry` ns after the start of `o`.
abbrev pub AreCovered : (ℕ → Bool) → ℕ → ℕ → ℕ → Opening → ℕ → ℕ → GateDelays → Type 0
AreCovered opens occ least share o next carry d =
    (t : ℕ) → o.start ≤ t → t < o.turn.end → least ≤ turn_work least share (Some o.turn)
    → LeavesBy opens occ least (turn_work least share (Some o.turn)) (max (o.start + carry) t) (t + d.longest)
    × LeavesBy opens occ least (turn_work least share (Some o.turn)) (max (o.start + carry) t) (next + d.carry)
