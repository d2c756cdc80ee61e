-- Work that arrives in intervals while a gate is open, and delay bounds for it.
use Rattle.std.specs.Prelude.{◌≡◌, ℕ, Bool, true, ◌+◌, ◌-◌, ◌<◌, ◌≤◌, max, List, [], ◌∷◌}
use Rattle.bridge_cycle.specs.Fits.{IsFirstFit}
use Rattle.bridge_port.specs.Schedule.{Copy, PortRules}
use Rattle.bridge_groups.specs.Work.{IsNthFit, recent_work}

-- Holds if `begin t` is the first time of the interval that contains time `t`.
pub record AreIntervals (begin : ℕ → ℕ) : Type 0 where
  pub before : (t : ℕ) → begin t ≤ t
  pub same : (t u : ℕ) → begin t ≤ u → u ≤ t → begin u ≡ begin t

module _ {X : Type 0} where
  -- Holds if copies are offered only while `lets` is true. Together, the copies of each interval take at most `limit z` ns of transmission
  -- time. Here `z` is the interval's first time, which `begin` gives.
  abbrev pub HasIntervalWork : PortRules X → (ℕ → Bool) → (ℕ → ℕ) → (ℕ → ℕ) → List (Copy X) → Type 0
  HasIntervalWork r lets begin limit [] = Unit {0}
  HasIntervalWork r lets begin limit (x ∷ xs) = (lets x.at ≡ true) × (recent_work r (begin x.at) (x ∷ xs) ≤ limit (begin x.at)) × HasIntervalWork r lets begin limit xs

-- Holds if work of `work` ns that waits from time `from` has left by time `end`. The last frame takes `least` ns and starts by fit
-- `work - least`. Fits are for `occ` ns.
abbrev pub LeavesBy : (ℕ → Bool) → ℕ → ℕ → ℕ → ℕ → ℕ → Type 0
LeavesBy opens occ least work from end = (v : ℕ) × IsNthFit opens occ (work - least) from v × (v + least ≤ end)

-- Holds if `b` ns is a delay bound for frames that arrive while `lets` is true. An interval from `z` has at most `limit z` ns of work.
-- Earlier work has left by `clear z`.
pub record IsIntervalBound (opens lets : ℕ → Bool) (occ least : ℕ) (begin limit : ℕ → ℕ) (b : ℕ) : Type 0 where
  pub has_fit : (u : ℕ) → (v : ℕ) × IsFirstFit opens occ u v
  pub clear : ℕ → ℕ
  pub rises : (t u : ℕ) → t ≤ u → clear (begin t) ≤ clear (begin u)
  pub clears : (t u : ℕ) → lets t ≡ true → t < begin u → least ≤ limit (begin t) → LeavesBy opens occ least (limit (begin t)) (max (clear (begin t)) t) (max (clear (begin u)) (begin u))
  pub in_time : (t : ℕ) → lets t ≡ true → least ≤ limit (begin t) → LeavesBy opens occ least (limit (begin t)) (max (clear (begin t)) t) (t + b)
