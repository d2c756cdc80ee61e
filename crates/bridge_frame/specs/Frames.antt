-- The header of an Ethernet frame with an optional C-VLAN tag (IEEE 802.1Q-2018, clause 9).
use Rattle.std.specs.Prelude.{ℕ, Bool, true, ◌+◌, ◌-◌, ◌*◌, ◌/◌, ◌%◌, ◌&&◌, nat_lt, nat_le, nat_eq, List, length, take, drop, slice_index, slice_set, Some, None, option_map, Result, Ok, Err, if◌then◌else◌}
use Rattle.bridge_limits.specs.declared.TheConstants.{LONGEST_FRAME}
use Rattle.bridge_frame.specs.declared.Head.{Head}
use Rattle.bridge_frame.specs.declared.Tag.{Tag}
use Rattle.bridge_frame.specs.declared.FrameFault.{FrameFault}
use Rattle.bridge_frame.specs.declared.FrameFault.TheVariants.{TooShort, TooLong}

-- True if octets 12 and 13 of the frame, counted from 0, are 81 00 (hexadecimal), the EtherType of a C-VLAN tag.
abbrev pub is_tagged : List ℕ → Bool
is_tagged octets = nat_eq (slice_index octets 12) 0x81 && nat_eq (slice_index octets 13) 0x00

-- C-VLAN tag in octets 14 and 15, highest bits first: priority code point (3 bits), drop eligible indication (1 bit),
-- VLAN identifier (12 bits).
abbrev pub frame_tag : List ℕ → Tag
frame_tag octets = record {
  pcp = slice_index octets 14 / 32 % 8;
  dei = nat_eq (slice_index octets 14 / 16 % 2) 1;
  vid = slice_index octets 14 % 16 * 256 + slice_index octets 15 % 256;
}

-- Number of the fault of a frame's header, 1 or 2, by which contracts compare faults.
abbrev pub fault_code : FrameFault → ℕ
fault_code TooShort = 1
fault_code TooLong = 2

-- Number of octets in the frame's header: 14 (two addresses and the EtherType), or 18 with a C-VLAN tag.
abbrev pub head_octets : List ℕ → ℕ
head_octets octets = if is_tagged octets then 18 else 14

-- Number of octets in the frame's SDU: the frame's length `len` minus 12 for both addresses, minus 4 more for a C-VLAN
-- tag.
abbrev pub sdu_octets : List ℕ → ℕ → ℕ
sdu_octets octets len = if is_tagged octets then len - 16 else len - 12

-- Header fields read from a frame's `octets`, or a fault: TooShort if the header is incomplete, TooLong if the frame's
-- length `len` exceeds 9,216 octets.
abbrev pub parsed_head : List ℕ → ℕ → Result Head FrameFault
parsed_head octets len =
    if nat_lt (length octets) 14 then Err TooShort
    else if nat_lt (length octets) (head_octets octets) then Err TooShort
    else if nat_lt LONGEST_FRAME len then Err TooLong
    else Ok (record {
      da = take 6 octets;
      sa = take 6 (drop 6 octets);
      tag = (if is_tagged octets then Some (frame_tag octets) else None);
      sdu = sdu_octets octets len;
    })

-- True if the frame carries a C-VLAN tag and has at least 18 octets, the length of a header with this tag.
abbrev pub has_tag : List ℕ → Bool
has_tag octets = nat_le 18 (length octets) && is_tagged octets

-- The tag octet `octet` with its drop eligible bit (value 16) set to 1; all other bits keep their values.
abbrev pub drop_eligible_octet : ℕ → ℕ
drop_eligible_octet octet = if nat_eq (octet / 16 % 2) 1 then octet else octet + 16

-- Frame octets with the drop eligible bit of the C-VLAN tag set to 1; a frame without a complete tagged header stays
-- unchanged.
abbrev pub drop_eligible_frame : List ℕ → List ℕ
drop_eligible_frame octets = if has_tag octets then slice_set octets 14 (drop_eligible_octet (slice_index octets 14)) else octets

-- Header with its tag, if it has one, marked drop eligible.
abbrev pub drop_eligible_head : Head → Head
drop_eligible_head h = record { da = h.da; sa = h.sa; tag = option_map (λ t. record { pcp = t.pcp; dei = true; vid = t.vid }) h.tag; sdu = h.sdu }
