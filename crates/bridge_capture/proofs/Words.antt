-- Two 32-bit words of a record in one 64-bit number.
use Rattle.std.proofs.Common.{◌≡◌, ℕ, zero, suc, ◌+◌, ◌*◌, ◌/◌, ◌%◌, ◌^◌, ◌<◌, List, [], ◌∷◌, ◌++◌, refl, ap, ◌∙◌, get_or, arith}
use Rattle.std.specs.Int.{w32, w64, to_le_bytes}
use Rattle.std.proofs.lemmas.Nat.{le_bytes_8, from_le_bytes-to_le_bytes_4}
use Rattle.bridge_capture.specs.WrittenCapture.{written_words}

four_octets : (a b c d : ℕ) (more : List ℕ) → a < 256 → b < 256 → c < 256 → d < 256 → ((i : ℕ) → get_or more i 0 < 256) → (i : ℕ) → get_or (a ∷ b ∷ c ∷ d ∷ more) i 0 < 256
four_octets a b c d more p q r s m zero = p
four_octets a b c d more p q r s m (suc zero) = q
four_octets a b c d more p q r s m (suc (suc zero)) = r
four_octets a b c d more p q r s m (suc (suc (suc zero))) = s
four_octets a b c d more p q r s m (suc (suc (suc (suc i)))) = m i

no_octets : (i : ℕ) → get_or {A = ℕ} [] i 0 < 256
no_octets i = omega arith

small_words : (a : ℕ) (more : List ℕ) → ((i : ℕ) → get_or more i 0 < 256) → (i : ℕ) → get_or (to_le_bytes w32 a ++ more) i 0 < 256
small_words a more m = four_octets (a % 256) (a / 256 % 256) (a / 65536 % 256) (a / 16777216 % 256) more (omega arith) (omega arith) (omega arith) (omega arith) m

-- The eight octets of a number are the four octets of each of its words.
pub pair_octets : (a b : ℕ) → a < 2 ^ 32 → b < 2 ^ 32 → to_le_bytes w64 (a + b * 2 ^ 32) ≡ to_le_bytes w32 a ++ to_le_bytes w32 b
pair_octets a b low high =
    let x = from_le_bytes-to_le_bytes_4 a low in
    let y = from_le_bytes-to_le_bytes_4 b high in
    le_bytes_8 (to_le_bytes w32 a ++ to_le_bytes w32 b) (a + b * 2 ^ 32) refl (small_words a (to_le_bytes w32 b) (small_words b [] no_octets)) (omega (arith, x, y))

-- The words of a record, two in each number.
pub pairs_are_words : (done captured len : ℕ) → done < 2 ^ 32 * 10 ^ 9 → captured < 2 ^ 32 → len < 2 ^ 32
    → to_le_bytes w64 (done / 10 ^ 9 + done % 10 ^ 9 * 2 ^ 32) ++ to_le_bytes w64 (captured + len * 2 ^ 32) ≡ written_words done captured len
unfolding written_words
pairs_are_words done captured len early c l =
    ap (λ l. l ++ to_le_bytes w64 (captured + len * 2 ^ 32)) (pair_octets (done / 10 ^ 9) (done % 10 ^ 9) (omega arith) (omega arith))
    ∙ ap (λ l. (to_le_bytes w32 (done / 10 ^ 9) ++ to_le_bytes w32 (done % 10 ^ 9)) ++ l) (pair_octets captured len c l)
