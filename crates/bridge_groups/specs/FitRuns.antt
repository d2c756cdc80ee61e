-- Runs of successive fits in the windows of a class, by which delay bounds count.
use Rattle.std.specs.Prelude.{ℕ, Bool, ◌+◌, ◌<◌, ◌≤◌}
use Rattle.bridge_cycle.specs.Fits.{Fits, IsFirstFit}
use Rattle.bridge_groups.specs.declared.fit_runs.FitRun.{FitRun}

-- Holds if `run` starts at the first fit at time `from` or later, and ends before the next time that isn't a fit. At a fit, a transmission
-- of `occ` ns fits.
pub record IsFitRun (opens : ℕ → Bool) (occ from : ℕ) (run : FitRun) : Type 0 where
  pub first : IsFirstFit opens occ from run.first
  pub some : 1 ≤ run.length
  pub fits : (i : ℕ) → i < run.length → Fits opens occ (run.first + i)
  pub ends : ¬ Fits opens occ (run.first + run.length)
