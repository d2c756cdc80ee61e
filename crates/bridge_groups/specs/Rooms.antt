-- Queue capacities that suffice for a group.
use Rattle.std.specs.Prelude.{◌≡◌, ℕ, Bool, false, ◌+◌, ◌-◌, ◌*◌, ◌<◌, ◌≤◌}
use Rattle.bridge_groups.specs.Work.{HasFitsPerCycle, IsNthFit}
use Rattle.bridge_groups.specs.declared.linear_curve.LinearCurve.{LinearCurve}

-- Holds if enough frames have started before `room` + 1 frames wait. In any `w` ns at most `many w` frames arrive, with work of `curve w` ns.
abbrev pub drains : (ℕ → Bool) → ℕ → ℕ → (ℕ → ℕ) → (ℕ → ℕ) → ℕ → Type 0
drains opens occ least curve many room =
    (u w : ℕ) → (room + 1) * least ≤ curve w → room + 1 ≤ many w → (v : ℕ) × IsNthFit opens occ (curve w - (room + 1) * least) u v × (v < u + w)

-- Holds if each cycle has `n` fits, at least 1. In the long run, at most `n` ns of work arrive in a cycle. The class is closed at some
-- time.
pub record HasRoomFits (opens : ℕ → Bool) (occ cycle : ℕ) (c : LinearCurve) (n : ℕ) : Type 0 where
  pub some : 1 ≤ n
  pub fits : HasFitsPerCycle opens occ cycle n
  pub stable : c.rate * cycle ≤ n * c.unit
  pub closes : (u : ℕ) × (opens u ≡ false)
