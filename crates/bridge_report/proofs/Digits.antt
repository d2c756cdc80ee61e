-- The number of decimal digits of a number, and digits that are appended to octets.
use Rattle.std.proofs.Common.{◌≡◌, ℕ, zero, suc, ◌+◌, ◌*◌, ◌/◌, ◌^◌, ◌<◌, ◌≤◌, List, ◌++◌, length, take, drop, ap, sym, ◌∙◌, arith}
use Rattle.std.specs.Fmt.{decimal}
use Rattle.std.proofs.Math.Nat.{pow-suc}
use Rattle.std.proofs.Math.Seq.{take-append_seam}
use Rattle.std.proofs.lemmas.Fmt.{decimal_digit, decimal_step}
use Rattle.std.proofs.lemmas.List.{append_assoc, length-append, take-append-drop, take-take}

powers : (k : ℕ) → 1 ≤ 10 ^ k
powers zero = omega arith
powers (suc k) = omega (arith, pow-suc 10 k, powers k)

counted : (k n : ℕ) → 10 ^ k ≤ n → n < 10 ^ k * 10 → n < 2 ^ 64 → length (decimal n) ≡ k + 1
counted zero n low high fits = ap length (decimal_digit n (omega (arith, high)))
counted (suc k) n low high fits =
    let power : 10 ^ suc k ≡ 10 ^ k * 10 = pow-suc 10 k in
    let front : length (decimal (n / 10)) ≡ k + 1 = counted k (n / 10) (omega (arith, power, low)) (omega (arith, power, high)) (omega (arith, fits)) in
    ap length (decimal_step n (omega (arith, power, low, powers k)) fits) ∙ length-append (decimal (n / 10)) _ ∙ omega (arith, front)

-- The greatest power of ten that is at most the number gives its digit count.
pub digits_counted : (n k : ℕ) → 10 ^ k ≤ n → n < 10 * 10 ^ k → n < 2 ^ 64 → length (decimal n) ≡ k + 1
digits_counted n k low high fits = counted k n low (omega (arith, high)) fits

pub nothing_counted : (n : ℕ) → n ≡ 0 → length (decimal n) ≡ 1
nothing_counted n is = ap (λ m. length (decimal m)) is ∙ ap length (decimal_digit 0 (omega arith))

pub ruleset counts = (digits_counted, nothing_counted)

-- A buffer with 20 octets more than its contents has space for a number.
pub room_behind : (old room with_room lent : List ℕ) (len count : ℕ) → len ≡ length old → count ≤ 20 → with_room ≡ old ++ room → length room ≡ 20 → lent ≡ with_room → len + count ≤ length lent
room_behind old room with_room lent len count begins most is wide same = omega (arith, begins, most, wide, ap length (same ∙ is), length-append old room)

-- Octets with digits and surplus octets appended, cut after the digits.
pub digits_behind : (old room with_room lent digits after written more now : List ℕ) (start len count long : ℕ) → len ≡ length old → count ≡ length digits → with_room ≡ old ++ room → lent ≡ with_room
    → start + length digits ≡ len + count → drop start written ≡ digits ++ after → take start written ≡ take start lent → len + count ≤ long
    → now ≡ take (len + count) (take long (written ++ more)) → now ≡ old ++ digits
digits_behind old room with_room lent digits after written more now start len count long begins counts is same starts behind before within cut =
    let first : start ≡ length old = omega (arith, begins, counts, starts) in
    let front : take start written ≡ old = before ∙ ap (take start) (same ∙ is) ∙ ap (λ n. take n (old ++ room)) first ∙ take-append_seam old room in
    let whole : written ≡ (old ++ digits) ++ after = sym (take-append-drop start written) ∙ ap (λ l. l ++ drop start written) front ∙ ap (λ l. old ++ l) behind ∙ sym (append_assoc old digits after) in
    let many : len + count ≡ length (old ++ digits) = omega (arith, begins, counts, length-append old digits) in
    let all : written ++ more ≡ (old ++ digits) ++ (after ++ more) = ap (λ l. l ++ more) whole ∙ append_assoc (old ++ digits) after more in
    cut ∙ take-take (len + count) long (written ++ more) within ∙ ap (take (len + count)) all ∙ ap (λ n. take n ((old ++ digits) ++ (after ++ more))) many ∙ take-append_seam (old ++ digits) (after ++ more)
