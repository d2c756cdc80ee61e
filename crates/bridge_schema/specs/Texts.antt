-- Meanings of MAC addresses and of other texts in a plan.
use Rattle.std.specs.Prelude.{ℕ, ◌+◌, ◌*◌, ◌-◌, Bool, true, false, ◌&&◌, List, [], ◌∷◌, codes, Option, Some, None, nat_le, nat_eq, length, slice_index, if◌then◌else◌}
use Rattle.std.specs.Cmp.Lexicographic.{pointwise}

-- Value of a hexadecimal digit of either case; `None` for any other octet.
abbrev pub hex_value : ℕ → Option ℕ
hex_value c =
    if nat_le 48 c && nat_le c 57 then Some (c - 48)
    else if nat_le 65 c && nat_le c 70 then Some (c - 55)
    else if nat_le 97 c && nat_le c 102 then Some (c - 87)
    else None

-- Octet of a high and a low digit; `None` if one of them isn't a digit.
abbrev pub digits_octet : Option ℕ → Option ℕ → Option ℕ
digits_octet (Some a) (Some b) = Some (16 * a + b)
digits_octet _ _ = None

-- Octet of the two digits at index `i`; `None` if one of them isn't a digit.
abbrev pub hex_pair : List ℕ → ℕ → Option ℕ
hex_pair s i = digits_octet (hex_value (slice_index s i)) (hex_value (slice_index s (i + 1)))

-- Prepends an octet of an address to the remaining octets; `None` if one of both is missing.
abbrev pub prepend_octet : Option ℕ → Option (List ℕ) → Option (List ℕ)
prepend_octet (Some x) (Some xs) = Some (x ∷ xs)
prepend_octet _ _ = None

-- True if hyphens separate the six pairs of an address.
abbrev pub has_hyphens : List ℕ → Bool
has_hyphens s = nat_eq (slice_index s 2) 45 && (nat_eq (slice_index s 5) 45 && (nat_eq (slice_index s 8) 45 && (nat_eq (slice_index s 11) 45 && nat_eq (slice_index s 14) 45)))

-- MAC address in a text: six pairs of hexadecimal digits, separated by hyphens. `None` for any other text.
unfoldable pub parse_address : List ℕ → Option (List ℕ)
parse_address s =
    if nat_eq (length s) 17 then
    (if has_hyphens s then prepend_octet (hex_pair s 0) (prepend_octet (hex_pair s 3) (prepend_octet (hex_pair s 6) (prepend_octet (hex_pair s 9) (prepend_octet (hex_pair s 12) (prepend_octet (hex_pair s 15) (Some [])))))) else None)
    else None

-- State of a stream gate in a text: true for open, false for closed, `None` for any other text.
abbrev pub parse_openness : List ℕ → Option Bool
parse_openness s = if pointwise nat_eq s (codes "open") then Some true else if pointwise nat_eq s (codes "closed") then Some false else None
