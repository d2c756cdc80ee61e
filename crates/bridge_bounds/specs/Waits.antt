-- Waits of a frame that arrives between two times.
use Rattle.std.specs.Prelude.{ℕ, Bool, true, false, ◌+◌, ◌≤◌, ◌%◌, nat_eq}
use Rattle.bridge_cycle.specs.Fits.{IsFirstFit}
use Rattle.bridge_port.specs.GateSchedule.{Always, Changing, One, GateSchedule, opens}
use Rattle.bridge_bounds.specs.declared.traffic.Traffic.{Traffic}
use Rattle.bridge_bounds.specs.declared.waits.Waits.{Waits}

-- Holds if `wait` ns is the longest wait until a transmission of `occ` ns fits, over all times from `from` to `to`,
-- both included. The transmission gate is open when `opens` is true.
pub record IsLongestWait (opens : ℕ → Bool) (occ from to wait : ℕ) : Type 0 where
  pub longest : (u s : ℕ) → from ≤ u → u ≤ to → IsFirstFit opens occ u s → s ≤ u + wait
  pub attained : (u : ℕ) × (from ≤ u) × (u ≤ to) × IsFirstFit opens occ u (u + wait)

-- Holds if `wait` ns is the shortest wait until a transmission of `occ` ns fits, over all times from `from` to `to`,
-- both included. The transmission gate is open when `opens` is true.
pub record IsShortestWait (opens : ℕ → Bool) (occ from to wait : ℕ) : Type 0 where
  pub shortest : (u s : ℕ) → from ≤ u → u ≤ to → IsFirstFit opens occ u s → u + wait ≤ s
  pub attained : (u : ℕ) × (from ≤ u) × (u ≤ to) × IsFirstFit opens occ u (u + wait)

-- True if schedule `o` is always open, or has one list whose cycle time divides `period` in ns; false with a schedule
-- change.
abbrev pub has_period : ℕ → GateSchedule → Bool
has_period period Always = true
has_period period (One l) = nat_eq (period % l.cycle) 0
has_period period (Changing j) = false

-- Holds if `w` has the waits of traffic `t` in class `c`: a shortest frame's first fit from `t.from`, a longest frame's first fit from
-- `t.to`, and the longest wait in between.
pub record AreWaits (o : GateSchedule) (c short long : ℕ) (t : Traffic) (w : Waits) : Type 0 where
  pub first : IsFirstFit (opens o c) short t.from w.first
  pub last : IsFirstFit (opens o c) long t.to w.last
  pub longest : IsLongestWait (opens o c) long t.from t.to w.longest
