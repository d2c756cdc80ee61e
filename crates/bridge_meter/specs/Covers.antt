-- Histories of a meter in which no subtraction of the definitions in Bounds stops at 0.
use Rattle.std.specs.Prelude.{ℕ, ◌+◌, ◌-◌, ◌*◌, ◌≤◌, List, [], ◌∷◌}
use Rattle.bridge_meter.specs.Bounds.{JudgedFrame, Limits, committed, overflow, coupled_overflow, excess}

-- Holds if no judged frame is later than `now`, and no bound of the committed bucket at time `now` stops at 0. Frames
-- newer than the list took `green` units.
abbrev pub IsGreenCovered : Limits → ℕ → ℕ → List JudgedFrame → Type 0
IsGreenCovered l now green [] = Unit {0}
IsGreenCovered l now green (f ∷ fs) = (f.at ≤ now) × (green + f.green ≤ l.cbs + l.cir * (now - f.at)) × IsGreenCovered l now (green + f.green) fs

-- Holds if no overflow up to time `now` and no bound of the excess bucket at `now` stops at 0. The committed bucket has
-- `held` units at `now`.
--
-- Frames newer than the list took the units `green` and `yellow`.
abbrev pub IsYellowCovered : Limits → ℕ → ℕ → ℕ → ℕ → List JudgedFrame → Type 0
IsYellowCovered l now held green yellow [] = Unit {0}
IsYellowCovered l now held green yellow (f ∷ fs) =
    (green + f.green + held ≤ committed l f.at fs + l.cir * (now - f.at)) × (yellow + f.yellow ≤ l.ebs + l.eir * (now - f.at) + coupled_overflow l (overflow l f.at (committed l f.at fs) (green + f.green) now held)) × IsYellowCovered l now held (green + f.green) (yellow + f.yellow) fs

-- Holds if no subtraction of the definitions in Bounds stops at 0 when the newest frame arrives, even after this frame
-- took its units.
abbrev pub IsCovered : Limits → List JudgedFrame → Type 0
IsCovered l [] = Unit {0}
IsCovered l (f ∷ fs) = IsGreenCovered l f.at 0 fs × IsYellowCovered l f.at (committed l f.at fs) 0 0 fs × (f.green ≤ committed l f.at fs) × (f.yellow ≤ excess l f.at fs)
