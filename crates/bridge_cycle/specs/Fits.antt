-- When a class is open, and whether a transmission fits at a time.
use Rattle.std.specs.Prelude.{◌≡◌, ℕ, Bool, true, ◌<◌, ◌≤◌, ◌+◌, ◌/◌, ◌%◌, ◌^◌, eqb}

-- True if bit `c` of the gate state `classes` is 1, which means that the transmission gate of class `c` is open.
abbrev pub is_open : ℕ → ℕ → Bool
is_open classes c = eqb (classes / 2 ^ c % 2) 1

-- Holds if a transmission that starts at time `t` and lasts `occ` ns fits. `opens` is true at each ns from `t` up to,
-- not including, `t + occ`.
abbrev pub Fits : (ℕ → Bool) → ℕ → ℕ → Type 0
Fits opens occ t = (u : ℕ) → t ≤ u → u < t + occ → opens u ≡ true

-- Holds if time `t` is the earliest time, `from` or later, at which a transmission of `occ` ns fits the open times
-- `opens`.
pub record IsFirstFit (opens : ℕ → Bool) (occ from t : ℕ) : Type 0 where
  pub after : from ≤ t
  pub fits : Fits opens occ t
  pub least : (v : ℕ) → from ≤ v → v < t → ¬ Fits opens occ v

-- Holds if the open times `opens` of a class repeat every `cycle` ns.
abbrev pub IsPeriodic : (ℕ → Bool) → ℕ → Type 0
IsPeriodic opens cycle = (u : ℕ) → opens (u + cycle) ≡ opens u
