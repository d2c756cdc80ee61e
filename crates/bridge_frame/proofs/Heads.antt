-- Ranges of the fields of parsed headers.
use Rattle.std.proofs.Common.{◌≡◌, ◌≤◌, ◌/◌, ◌%◌, ◌*◌, ◌+◌, arith, length, take, drop, slice_index, nat_lt, ℕ, Bool, true, false, List, ap, ◌∙◌, Some, None, Result, Ok, Err}
use Rattle.std.specs.Prelude.{if◌then◌else◌}
use Rattle.std.specs.Option.{ForSome}
use Rattle.bridge_limits.specs.declared.TheConstants.{LONGEST_FRAME}
use Rattle.bridge_frame.specs.declared.Head.{Head}
use Rattle.bridge_frame.specs.declared.FrameFault.{FrameFault}
use Rattle.bridge_frame.specs.declared.Tag.{Tag}
use Rattle.bridge_frame.specs.declared.FrameFault.TheVariants.{TooShort, TooLong}
use Rattle.bridge_frame.specs.Frames.{parsed_head, head_octets, is_tagged, sdu_octets, frame_tag}

-- Holds if the priority code point fits 3 bits, and the VLAN identifier fits 12 bits.
abbrev pub HasWidths : Tag → Type 0
HasWidths t = (t.pcp ≤ 7) × (t.vid ≤ 4095)

widths : (octets : List ℕ) → HasWidths (frame_tag octets)
widths octets = let a = slice_index octets 14 in let b = slice_index octets 15 in (few a, low a b)
  where
    few : (n : ℕ) → n / 32 % 8 ≤ 7
    few n = omega arith

    low : (m n : ℕ) → m % 16 * 256 + n % 256 ≤ 4095
    low m n = omega arith

tag_widths : (b : Bool) (octets : List ℕ) (t : Tag) → (if b then Some (frame_tag octets) else None) ≡ Some t → HasWidths t
tag_widths true octets t e = let same : frame_tag octets ≡ t = cc in rw (← same) (widths octets)
tag_widths false octets t e = absurd (cc)

-- Result of parsing, from the three tests of `parsed_head`.
abbrev head_if : Bool → Bool → Bool → Head → Result Head FrameFault
head_if a b c h = if a then Err TooShort else if b then Err TooShort else if c then Err TooLong else Ok h

head_is : (a b c : Bool) (g h : Head) → head_if a b c g ≡ Ok h → g ≡ h
head_is true b c g h e = absurd (cc)
head_is false true c g h e = absurd (cc)
head_is false false true g h e = absurd (cc)
head_is false false false g h e = cc

tag_of_head : (octets : List ℕ) (len : ℕ) (h : Head) → parsed_head octets len ≡ Ok h → ForSome h.tag HasWidths
tag_of_head octets len h e =
    let g : Head = record { da = take 6 octets; sa = take 6 (drop 6 octets); tag = (if is_tagged octets then Some (frame_tag octets) else None); sdu = sdu_octets octets len } in
    let same : g ≡ h = head_is (nat_lt (length octets) 14) (nat_lt (length octets) (head_octets octets)) (nat_lt LONGEST_FRAME len) g h e in
    λ t is. tag_widths (is_tagged octets) octets t (ap (λ (z : Head). z.tag) same ∙ is)

-- The priority code point of a parsed tag is at most 7.
pub head_few : (octets : List ℕ) (len : ℕ) (h : Head) → parsed_head octets len ≡ Ok h → ForSome h.tag (λ t. t.pcp ≤ 7)
head_few octets len h e = λ t is. (tag_of_head octets len h e t is).0

-- The VLAN identifier of a parsed tag is at most 4,095.
pub head_low : (octets : List ℕ) (len : ℕ) (h : Head) → parsed_head octets len ≡ Ok h → ForSome h.tag (λ t. t.vid ≤ 4095)
head_low octets len h e = λ t is. (tag_of_head octets len h e t is).1
