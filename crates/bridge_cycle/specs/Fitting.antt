-- Conditions under which a transmission fits into the open times of a class.
use Rattle.std.specs.Prelude.{ℕ, zero, suc, Bool, true, false, ◌+◌, ◌&&◌, ◌||◌}

-- True if `opens` is true at each of the `n` ns from time `t` on; always true if `n` is 0.
unfoldable pub all_open : (ℕ → Bool) → ℕ → ℕ → Bool
all_open opens t zero = true
all_open opens t (suc n) = opens (t + n) && all_open opens t n

-- True if, from at least one start time below the second argument (in ns), `opens` is true for `occ` ns in a row.
unfoldable pub fits_somewhere : (ℕ → Bool) → ℕ → ℕ → Bool
fits_somewhere opens zero occ = false
fits_somewhere opens (suc t) occ = all_open opens t occ || fits_somewhere opens t occ
