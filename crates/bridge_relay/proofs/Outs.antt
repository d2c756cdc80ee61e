-- The number of existing ports in a set.
use Rattle.std.proofs.Common.{◌≡◌, ℕ, ◌+◌, ◌-◌, ◌*◌, ◌/◌, ◌%◌, ◌^◌, ◌<◌, ◌≤◌, List, Option, zero, suc, arith, refl, ap, ◌∙◌, sym, subst, bit_and}
use Rattle.std.specs.Prelude.{if◌then◌else◌, Bool, ◌&&◌, nat_eq}
use Rattle.std.proofs.Math.Nat.{div-lt_iff_lt-mul, two-pow-succ}
use Rattle.std.proofs.lemmas.Nat.{pow_pos, and_le_l, mod-pow-add, mod_below, ones_cat, leading_length, le-div}
use Rattle.std.proofs.lemmas.Nat.Bits.{bit_at-lt, bit_at_above}
use Rattle.std.specs.Int.{bit_at}
use Rattle.std.specs.Int.Count.{ones, count_leading_zeros}
use Rattle.bridge_forward.specs.Ports.{has_port}
use Rattle.bridge_forward.proofs.Memberships.{has_both}
use Rattle.bridge_relay.specs.declared.port_state.PortState.{PortState}
use Rattle.bridge_relay.specs.Ports.{is_output, count_outputs, IsLastOutput, IsPresentSet}

pub outs_next : {A : Type 0} (slots : List (Option (PortState A))) (set k : ℕ) → 1 ≤ k → count_outputs slots set k ≡ count_outputs slots set (k - 1) + (if is_output slots set k then 1 else 0)
outs_next slots set zero l = absurd (omega arith)
outs_next slots set (suc n) l = let e : n + 1 ≡ suc n = omega arith in let f : n ≡ suc n - 1 = omega arith in ap (λ (m : ℕ). count_outputs slots set n + (if is_output slots set m then 1 else 0)) e ∙ ap (λ (m : ℕ). count_outputs slots set m + (if is_output slots set (suc n) then 1 else 0)) f

-- A frame leaves by the ports that are in its set and exist.
out_is : {A : Type 0} (slots : List (Option (PortState A))) (set present q : ℕ) → IsPresentSet slots present → 1 ≤ q → q ≤ 16 → is_output slots set q ≡ has_port (bit_and set present) q
out_is slots set present q are low few = ap (λ (b : Bool). has_port set q && b) (sym (are q low few)) ∙ sym (has_both set present q)

none_of : ones 0 ≡ 0
unfolding ones
none_of = refl

one_of : (b : ℕ) → b < 2 → ones b ≡ b
unfolding ones
one_of zero l = refl
one_of (suc zero) l = refl
one_of (suc (suc b)) l = absurd (omega (arith, l))

flag_of : (b : ℕ) → b < 2 → (if nat_eq b 1 then 1 else 0) ≡ b
flag_of zero l = refl
flag_of (suc zero) l = refl
flag_of (suc (suc b)) l = absurd (omega (arith, l))

-- The ports up to `n` are counted by the lowest `n` bits.
outs_low : {A : Type 0} (slots : List (Option (PortState A))) (set present n : ℕ) → IsPresentSet slots present → n ≤ 16 → count_outputs slots set n ≡ ones (bit_and set present % 2 ^ n)
outs_low slots set present zero are few = let none : bit_and set present % 2 ^ 0 ≡ 0 = omega arith in sym (ap ones none ∙ none_of)
outs_low slots set present (suc n) are few =
    let x = bit_and set present in
    let next : n + 1 ≡ suc n = omega arith in
    let turned : 1 + n ≡ suc n = omega arith in
    let back : n + 1 - 1 ≡ n = omega arith in
    let before = outs_low slots set present n are (omega (arith, few)) in
    let bit : (if is_output slots set (n + 1) then 1 else 0) ≡ bit_at x n = ap (λ (b : Bool). if b then 1 else 0) (out_is slots set present (n + 1) are (omega arith) (omega (arith, few))) ∙ (ap (λ (m : ℕ). if nat_eq (bit_at x m) 1 then 1 else 0) back ∙ flag_of (bit_at x n) (bit_at-lt x n)) in
    let one = one_of (bit_at x n) (bit_at-lt x n) in
    let parts : ones (x % 2 ^ (1 + n)) ≡ ones (bit_at x n) + ones (x % 2 ^ n) = ap ones (mod-pow-add x 1 n) ∙ ones_cat n (bit_at x n) (x % 2 ^ n) (mod_below x (2 ^ n) (pow_pos n)) in
    let whole : ones (x % 2 ^ (1 + n)) ≡ ones (x % 2 ^ suc n) = ap (λ (m : ℕ). ones (x % 2 ^ m)) turned in
    omega (arith, before, bit, one, parts, whole)

both_fit : (set present : ℕ) → set < 2 ^ 16 → bit_and set present < 2 ^ 16
both_fit set present fits = let less = and_le_l set present in omega (arith, less, fits)

-- The ones of the set of existing ports in `set` count them.
pub outs_ones : {A : Type 0} (slots : List (Option (PortState A))) (set present : ℕ) → IsPresentSet slots present → set < 2 ^ 16 → count_outputs slots set 16 ≡ ones (bit_and set present)
outs_ones slots set present are fits =
    let below = both_fit set present fits in
    let whole : bit_and set present % 2 ^ 16 ≡ bit_and set present = omega (arith, below) in
    outs_low slots set present 16 are (omega arith) ∙ ap ones whole

-- The highest bit of a number.
high_bit : (x m : ℕ) → 0 < m → x < 2 ^ m → 2 ^ m ≤ 2 * x + 1 → bit_at x (m - 1) ≡ 1
high_bit x zero some below above = absurd (omega (arith, some))
high_bit x (suc j) some below above =
    let twice = two-pow-succ j in
    let low : 1 * 2 ^ j ≤ x = omega (arith, twice, above) in
    let high : x < 2 * 2 ^ j = omega (arith, twice, below) in
    let least = le-div 1 x (2 ^ j) (pow_pos j) low in
    let less : x / 2 ^ j < 2 = (div-lt_iff_lt-mul (pow_pos j)).1 high in
    let back : suc j - 1 ≡ j = omega arith in
    let one : x / 2 ^ j ≡ 1 = omega (arith, least, less) in
    ap (bit_at x) back ∙ ap (λ (n : ℕ). n % 2) one

-- The highest one of the set of existing ports in `set` is the last of them.
pub outs_last : {A : Type 0} (slots : List (Option (PortState A))) (set present : ℕ) → IsPresentSet slots present → set < 2 ^ 16 → IsLastOutput slots set (16 - count_leading_zeros 16 (bit_and set present))
outs_last {A} slots set present are fits =
    let x = bit_and set present in
    let top = leading_length 16 x (both_fit set present fits) in
    let all = top.1 in
    let last : 16 - count_leading_zeros 16 x ≡ top.0 = omega (arith, all) in
    subst (λ (m : ℕ). IsLastOutput slots set m) (sym last) (record {
      is_in = λ some.
          let few : top.0 ≤ 16 = omega (arith, all) in
          let bit = high_bit x top.0 some top.2 top.3 in
          (few, out_is slots set present top.0 are (omega (arith, some)) few ∙ ap (λ (n : ℕ). nat_eq n 1) bit);
      none_after = λ q later few.
          let none = bit_at_above x top.0 (q - 1) top.2 (omega (arith, later)) in
          out_is slots set present q are (omega (arith, later)) few ∙ ap (λ (n : ℕ). nat_eq n 1) none;
    })
