-- Equality tests between natural numbers.
use Rattle.std.proofs.Common.{◌≡◌, ℕ, suc, ◌+◌, ◌<◌, true, false, nat_eq, arith}
use Rattle.std.proofs.lemmas.Bool.Decides.{nat_tests}

-- A number doesn't equal a greater number.
pub apart : (a b : ℕ) → a < b → nat_eq a b ≡ false
apart a b l = grind (arith, nat_tests)

-- The equality test is symmetric if it fails.
pub swapped : (m n : ℕ) → nat_eq m n ≡ false → nat_eq n m ≡ false
swapped m n h = grind (arith, nat_tests)

-- Moves one from the first summand to the last.
pub more_by_one : (n k e : ℕ) → n ≡ (e + 1) + k → n ≡ e + suc k
more_by_one n k e h = omega (arith, h)

-- A number equals itself.
pub same_eq : (n : ℕ) → nat_eq n n ≡ true
same_eq n = grind (arith, nat_tests)
