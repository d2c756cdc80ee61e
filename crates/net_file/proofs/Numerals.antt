-- The test of numerals agrees with `parse`.
use Rattle.std.proofs.Common.{◌≡◌, ◌<◌, ℕ, true, nat_lt, List, length, arith}
use Rattle.std.proofs.lemmas.Bool.{and_parts}
use Rattle.std.proofs.lemmas.Bool.Decides.{nat_tests}
use Rattle.std.specs.Str.Parse.{IsNumeral}
use Rattle.std.proofs.lemmas.Str.Parse.{tells_all_ascii_digits, numerals_by_value, IsNumeralModel}
use Rattle.std.specs.Str.{all_ascii_digits}
use Rattle.std.specs.Str.Parse.{digits_value}
use Rattle.net_file.specs.Names.{is_numeral}

digits_model : IsNumeralModel (λ ds. all_ascii_digits ds ≡ true) (digits_value 10)
digits_model = numerals_by_value (λ ds. all_ascii_digits ds ≡ true) tells_all_ascii_digits

-- A text that passes the test is a numeral.
pub numeral_to : (s : List ℕ) → is_numeral s ≡ true → IsNumeral 10 s
numeral_to s h = let (some, all) = and_parts (nat_lt 0 (length s)) (all_ascii_digits s) h in (grind (arith, nat_tests), digits_model.to s all)

-- A numeral passes the test.
pub numeral_from : (s : List ℕ) → IsNumeral 10 s → is_numeral s ≡ true
numeral_from s h = let all : all_ascii_digits s ≡ true = digits_model.from s h.1 in let some : 0 < length s = h.0 in grind (arith, nat_tests)
