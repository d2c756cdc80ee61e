-- Longest time for which a class is open without a break.
use Rattle.std.specs.Prelude.{◌≡◌, ℕ, Bool, true, false, ◌<◌, ◌≤◌, ◌+◌, ◌↔◌}
use Rattle.bridge_cycle.specs.declared.cyclic_list.TheConstants.{LONGEST_CYCLE}
use Rattle.bridge_cycle.specs.declared.run.Run.{Run}
use Rattle.bridge_cycle.specs.declared.run.Run.TheVariants.{Never, For, Always}
use Rattle.bridge_cycle.specs.Fits.{Fits}

-- Holds if a class is open without a break for at most `run`: never, for lengths up to `r` ns, or always.
abbrev pub IsLongestRun : (ℕ → Bool) → Run → Type 0
IsLongestRun opens Never = (t : ℕ) → opens t ≡ false
IsLongestRun opens (For r) = (0 < r) × ((occ : ℕ) → ((t : ℕ) × Fits opens occ t) ↔ (occ ≤ r))
IsLongestRun opens Always = (t : ℕ) → opens t ≡ true

-- Holds if a transmission of `occ` ns fits within the run.
abbrev pub Allows : Run → ℕ → Type 0
Allows Never occ = occ ≡ 0
Allows (For r) occ = occ ≤ r
Allows Always occ = Unit {0}

-- Holds if a transmission that `run` allows fits at most 1 s, the longest cycle, after any time.
abbrev pub FitsSoon : (ℕ → Bool) → Run → Type 0
FitsSoon opens run = (occ from : ℕ) → Allows run occ → (u : ℕ) × (from ≤ u) × (u ≤ from + LONGEST_CYCLE) × Fits opens occ u

-- Holds if a run of limited length is shorter than the cycle time.
abbrev pub IsShorterThanCycle : Run → ℕ → Type 0
IsShorterThanCycle (For r) cycle = r < cycle
IsShorterThanCycle run cycle = Unit {0}

-- Holds if `longest` is the length in ns of the longest transmission that fits and ends by time `n`. A transmission of
-- this length fits at some time.
pub record IsLongestFit (opens : ℕ → Bool) (n longest : ℕ) : Type 0 where
  pub fits : (t : ℕ) × Fits opens longest t
  pub most : (occ t : ℕ) → t + occ ≤ n → Fits opens occ t → occ ≤ longest
