-- Last fits of windows, and start times from which frames wait longest. No public contract uses these definitions.
use Rattle.std.specs.Prelude.{◌≡◌, ℕ, Bool, ◌+◌, ◌-◌, ◌%◌, ◌<◌, ◌≤◌, ◌⊎◌, max}
use Rattle.bridge_cycle.specs.Fits.{Fits}
use Rattle.bridge_bounds.specs.Bounds.{FramesEnd, IsEdge}

-- Holds if time `c` is the last fit in the window that is open at time `at`. A transmission of `occ` ns fits at `c`,
-- and not 1 ns later.
pub record IsWindowEnd (opens : ℕ → Bool) (occ at c : ℕ) : Type 0 where
  pub after : at ≤ c
  pub all : (v : ℕ) → at ≤ v → v ≤ c → Fits opens occ v
  pub edge : IsEdge opens occ c

-- Holds if `start` is the latest time up to `to` from which back-to-back frames miss a window's last fit by 1 ns; but
-- `from` if this time is earlier.
--
-- The window is open at `to`. If no frame fits at `to`, or the window never ends, any `start` will do.
abbrev pub IsLatestStart : (ℕ → Bool) → ℕ → ℕ → ℕ → ℕ → Type 0
IsLatestStart opens occ from to start =
    Fits opens occ to → ((v : ℕ) → to ≤ v → Fits opens occ v) ⊎ ((c : ℕ) × IsWindowEnd opens occ to c × (start ≡ max from (to + 1 + (c - to) % occ - occ)))

-- Holds if `d` ns is the longest time in which `k` frames of `occ` ns each leave. They begin to wait at `from`, or 1 ns
-- after a window's last fit between `from` and `to`.
pub record IsLongestAfterEdges (opens : ℕ → Bool) (occ k from to d : ℕ) : Type 0 where
  pub start : (v : ℕ) → FramesEnd opens occ k from v → v ≤ from + d
  pub edges : (c v : ℕ) → from ≤ c → c < to → IsEdge opens occ c → FramesEnd opens occ k (c + 1) v → v ≤ c + 1 + d
  pub attained : (u : ℕ) × (from ≤ u) × (u ≤ to) × FramesEnd opens occ k u (u + d)
