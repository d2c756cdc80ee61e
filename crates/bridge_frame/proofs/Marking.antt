-- Parsing of a frame that was marked drop eligible.
use Rattle.std.proofs.Common.{◌≡◌, ◌<◌, ◌+◌, ◌*◌, ◌/◌, ◌%◌, ℕ, zero, suc, Bool, true, false, List, ◌∷◌, length, take, drop, slice_index, nat_eq, nat_lt, nat_le, arith, inl, inr, refl, ap, Some, None, Result, Ok, Err}
use Rattle.std.specs.Prelude.{if◌then◌else◌}
use Rattle.std.proofs.lemmas.Bool.{cases_Bool, and_parts, eqb-true, eqb-false, leb-false, lt-ltb}
use Rattle.bridge_limits.specs.declared.TheConstants.{LONGEST_FRAME}
use Rattle.bridge_limits.proofs.Cases.{left_false}
use Rattle.bridge_frame.specs.declared.Head.{Head}
use Rattle.bridge_frame.specs.declared.FrameFault.{FrameFault}
use Rattle.bridge_frame.specs.declared.FrameFault.TheVariants.{TooShort, TooLong}
use Rattle.bridge_frame.specs.Frames.{parsed_head, head_octets, is_tagged, sdu_octets, frame_tag, has_tag, drop_eligible_frame, drop_eligible_octet, drop_eligible_head}

-- Holds if octet `m` is octet `n` with its drop eligible bit set.
record IsSet (n m : ℕ) : Type 0 where
  pcp : m / 32 % 8 ≡ n / 32 % 8
  dei : m / 16 % 2 ≡ 1
  vid : m % 16 ≡ n % 16

zero_of : (m : ℕ) → m < 2 → (m ≡ 1 → ⊥) → m ≡ 0
zero_of zero l h = refl
zero_of (suc zero) l h = absurd (h refl)
zero_of (suc (suc m)) l h = absurd (omega (arith, l))

octet_is_set : (n : ℕ) → IsSet n (drop_eligible_octet n)
octet_is_set n = elim (cases_Bool (nat_eq (n / 16 % 2) 1)) [
  | inl k ↦ rw k (record { pcp = refl; dei = eqb-true (n / 16 % 2) 1 k; vid = refl })
  | inr k ↦
      let few : n / 16 % 2 < 2 = omega arith in
      rw k (cleared n (zero_of (n / 16 % 2) few (eqb-false (n / 16 % 2) 1 k)))
]
  where
    cleared : (n : ℕ) → n / 16 % 2 ≡ 0 → IsSet n (n + 16)
    cleared n h = record { pcp = omega (arith, h); dei = omega (arith, h); vid = omega (arith, h) }

abbrev head_if : Bool → Bool → Bool → Head → Result Head FrameFault
head_if a b c h = if a then Err TooShort else if b then Err TooShort else if c then Err TooLong else Ok h

-- A header marked drop eligible passes the tests that the header passes.
other_head : (a b c : Bool) (g k h : Head) → k ≡ drop_eligible_head g → head_if a b c g ≡ Ok h → head_if a b c k ≡ Ok (drop_eligible_head h)
other_head true b c g k h m e = absurd (cc)
other_head false true c g k h m e = absurd (cc)
other_head false false true g k h m e = absurd (cc)
other_head false false false g k h m e = let same : g ≡ h = cc in rw (m, same) refl

same_fault : (a b c : Bool) (g k : Head) (f : FrameFault) → head_if a b c g ≡ Err f → head_if a b c k ≡ Err f
same_fault true b c g k f e = e
same_fault false true c g k f e = e
same_fault false false true g k f e = e
same_fault false false false g k f e = absurd (cc)

short_head : (a b c : Bool) (g h : Head) → b ≡ true → head_if a b c g ≡ Ok h → ⊥
short_head true b c g h t e = absurd (cc)
short_head false true c g h t e = absurd (cc)
short_head false false c g h t e = absurd (cc)

abbrev read : List ℕ → ℕ → Head
read octets len = record { da = take 6 octets; sa = take 6 (drop 6 octets); tag = (if is_tagged octets then Some (frame_tag octets) else None); sdu = sdu_octets octets len }

-- Parses a frame whose octet 14 was replaced by the marked octet.
marked_parts : (a0 a1 a2 a3 a4 a5 a6 a7 a8 a9 a10 a11 a12 a13 a14 b : ℕ) (rest : List ℕ) (len : ℕ) (h : Head)
    → IsSet a14 b
    → is_tagged (a0 ∷ a1 ∷ a2 ∷ a3 ∷ a4 ∷ a5 ∷ a6 ∷ a7 ∷ a8 ∷ a9 ∷ a10 ∷ a11 ∷ a12 ∷ a13 ∷ a14 ∷ rest) ≡ true
    → parsed_head (a0 ∷ a1 ∷ a2 ∷ a3 ∷ a4 ∷ a5 ∷ a6 ∷ a7 ∷ a8 ∷ a9 ∷ a10 ∷ a11 ∷ a12 ∷ a13 ∷ a14 ∷ rest) len ≡ Ok h
    → parsed_head (a0 ∷ a1 ∷ a2 ∷ a3 ∷ a4 ∷ a5 ∷ a6 ∷ a7 ∷ a8 ∷ a9 ∷ a10 ∷ a11 ∷ a12 ∷ a13 ∷ b ∷ rest) len ≡ Ok (drop_eligible_head h)
marked_parts a0 a1 a2 a3 a4 a5 a6 a7 a8 a9 a10 a11 a12 a13 a14 b rest len h set t e =
    let xs : List ℕ = a0 ∷ a1 ∷ a2 ∷ a3 ∷ a4 ∷ a5 ∷ a6 ∷ a7 ∷ a8 ∷ a9 ∷ a10 ∷ a11 ∷ a12 ∷ a13 ∷ a14 ∷ rest in
    let ys : List ℕ = a0 ∷ a1 ∷ a2 ∷ a3 ∷ a4 ∷ a5 ∷ a6 ∷ a7 ∷ a8 ∷ a9 ∷ a10 ∷ a11 ∷ a12 ∷ a13 ∷ b ∷ rest in
    let vid : (frame_tag ys).vid ≡ (frame_tag xs).vid = ap (λ (z : ℕ). z * 256 + slice_index xs 15 % 256) set.vid in
    let tag : frame_tag ys ≡ record { pcp = (frame_tag xs).pcp; dei = true; vid = (frame_tag xs).vid } = rw (set.pcp, set.dei, vid) refl in
    let same : read ys len ≡ drop_eligible_head (read xs len) = rw (t, tag) refl in
    other_head (nat_lt (length xs) 14) (nat_lt (length xs) (head_octets xs)) (nat_lt LONGEST_FRAME len) (read xs len) (read ys len) h same e

-- A frame without a tag has no tag to mark: the header marked drop eligible is its own header.
unmarked_head : (octets : List ℕ) (len : ℕ) (h : Head) → has_tag octets ≡ false → parsed_head octets len ≡ Ok h → parsed_head octets len ≡ Ok (drop_eligible_head h)
unmarked_head octets len h unset e =
    let g : Head = read octets len in
    let short : Bool = nat_lt (length octets) 14 in
    let long : Bool = nat_lt LONGEST_FRAME len in
    elim (cases_Bool (is_tagged octets)) [
      | inl t ↦
          let few : nat_le 18 (length octets) ≡ false = left_false (nat_le 18 (length octets)) (is_tagged octets) unset t in
          let cut : nat_lt (length octets) (head_octets octets) ≡ true = rw t (lt-ltb (length octets) 18 (leb-false 18 (length octets) few)) in
          absurd (short_head short (nat_lt (length octets) (head_octets octets)) long g h cut e)
      | inr t ↦
          let same : g ≡ drop_eligible_head g = rw t refl in
          other_head short (nat_lt (length octets) (head_octets octets)) long g g h same e
    ]

-- A marked frame has the header that it had before, with its tag drop eligible.
pub marked_head : (octets : List ℕ) (len : ℕ) (h : Head) → parsed_head octets len ≡ Ok h → parsed_head (drop_eligible_frame octets) len ≡ Ok (drop_eligible_head h)
marked_head (a0 ∷ a1 ∷ a2 ∷ a3 ∷ a4 ∷ a5 ∷ a6 ∷ a7 ∷ a8 ∷ a9 ∷ a10 ∷ a11 ∷ a12 ∷ a13 ∷ a14 ∷ rest) len h e =
    let xs : List ℕ = a0 ∷ a1 ∷ a2 ∷ a3 ∷ a4 ∷ a5 ∷ a6 ∷ a7 ∷ a8 ∷ a9 ∷ a10 ∷ a11 ∷ a12 ∷ a13 ∷ a14 ∷ rest in
    elim (cases_Bool (has_tag xs)) [
      | inl k ↦
          let t : is_tagged xs ≡ true = (and_parts (nat_le 18 (length xs)) (is_tagged xs) k).1 in
          rw k (marked_parts a0 a1 a2 a3 a4 a5 a6 a7 a8 a9 a10 a11 a12 a13 a14 (drop_eligible_octet a14) rest len h (octet_is_set a14) t e)
      | inr k ↦ rw k (unmarked_head xs len h k e)
    ]
marked_head octets len h e = unmarked_head octets len h refl e

marked_fault_parts : (a0 a1 a2 a3 a4 a5 a6 a7 a8 a9 a10 a11 a12 a13 a14 b : ℕ) (rest : List ℕ) (len : ℕ) (f : FrameFault)
    → parsed_head (a0 ∷ a1 ∷ a2 ∷ a3 ∷ a4 ∷ a5 ∷ a6 ∷ a7 ∷ a8 ∷ a9 ∷ a10 ∷ a11 ∷ a12 ∷ a13 ∷ a14 ∷ rest) len ≡ Err f
    → parsed_head (a0 ∷ a1 ∷ a2 ∷ a3 ∷ a4 ∷ a5 ∷ a6 ∷ a7 ∷ a8 ∷ a9 ∷ a10 ∷ a11 ∷ a12 ∷ a13 ∷ b ∷ rest) len ≡ Err f
marked_fault_parts a0 a1 a2 a3 a4 a5 a6 a7 a8 a9 a10 a11 a12 a13 a14 b rest len f e =
    let xs : List ℕ = a0 ∷ a1 ∷ a2 ∷ a3 ∷ a4 ∷ a5 ∷ a6 ∷ a7 ∷ a8 ∷ a9 ∷ a10 ∷ a11 ∷ a12 ∷ a13 ∷ a14 ∷ rest in
    let ys : List ℕ = a0 ∷ a1 ∷ a2 ∷ a3 ∷ a4 ∷ a5 ∷ a6 ∷ a7 ∷ a8 ∷ a9 ∷ a10 ∷ a11 ∷ a12 ∷ a13 ∷ b ∷ rest in
    same_fault (nat_lt (length xs) 14) (nat_lt (length xs) (head_octets xs)) (nat_lt LONGEST_FRAME len) (read xs len) (read ys len) f e

-- A marked frame has the fault that it had before.
pub marked_fault : (octets : List ℕ) (len : ℕ) (f : FrameFault) → parsed_head octets len ≡ Err f → parsed_head (drop_eligible_frame octets) len ≡ Err f
marked_fault (a0 ∷ a1 ∷ a2 ∷ a3 ∷ a4 ∷ a5 ∷ a6 ∷ a7 ∷ a8 ∷ a9 ∷ a10 ∷ a11 ∷ a12 ∷ a13 ∷ a14 ∷ rest) len f e =
    let xs : List ℕ = a0 ∷ a1 ∷ a2 ∷ a3 ∷ a4 ∷ a5 ∷ a6 ∷ a7 ∷ a8 ∷ a9 ∷ a10 ∷ a11 ∷ a12 ∷ a13 ∷ a14 ∷ rest in
    elim (cases_Bool (has_tag xs)) [
      | inl k ↦ rw k (marked_fault_parts a0 a1 a2 a3 a4 a5 a6 a7 a8 a9 a10 a11 a12 a13 a14 (drop_eligible_octet a14) rest len f e)
      | inr k ↦ rw k e
    ]
marked_fault octets len f e = e
