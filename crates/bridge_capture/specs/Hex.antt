-- Octets that a hexadecimal text on standard input encodes.
use Rattle.std.specs.Prelude.{ℕ, ◌+◌, ◌-◌, ◌*◌, ◌==◌, ◌&&◌, ◌||◌, nat_lt, Bool, if◌then◌else◌, List, [], ◌∷◌, length, Option, Some, None, Result, Ok, Err}
use Rattle.std.specs.Char.{digit_value, is_digit}
use Rattle.bridge_capture.specs.declared.hex_fault.HexFault.{HexFault}
use Rattle.bridge_capture.specs.declared.hex_fault.HexFault.TheVariants.{NotHex, TooLong}

-- True for a space, tab, carriage return or line feed.
abbrev pub is_blank : ℕ → Bool
is_blank c = c == 32 || c == 9 || c == 13 || c == 10

-- Octet of two hexadecimal digits; `None` if a character isn't a digit.
abbrev pub digits_octet : ℕ → ℕ → Option ℕ
digits_octet high low = if is_digit high 16 && is_digit low 16 then Some (16 * digit_value high + digit_value low) else None

-- Prepends an octet to the octets of the remaining digits; a fault of these digits stays.
abbrev pub with_octet : ℕ → Result (List ℕ) HexFault → Result (List ℕ) HexFault
with_octet octet (Ok octets) = Ok (octet ∷ octets)
with_octet octet (Err fault) = Err fault

-- Prepends an octet to the result for the rest. `NotHex` if there is no octet (`None`); `TooLong` if there is one, and `room` is 0.
abbrev pub octet_and_rest : Option ℕ → ℕ → Result (List ℕ) HexFault → Result (List ℕ) HexFault
octet_and_rest None room others = Err NotHex
octet_and_rest (Some octet) room others = if room == 0 then Err TooLong else with_octet octet others

-- Octets that a text of hexadecimal digit pairs encodes. Blanks may stand anywhere except inside a pair. The first
-- fault from the left is the result: `NotHex`, or `TooLong` for more than `room` octets.
unfoldable pub octets_with_room : ℕ → List ℕ → Result (List ℕ) HexFault
octets_with_room room [] = Ok []
octets_with_room room (c ∷ []) = if is_blank c then Ok [] else Err NotHex
octets_with_room room (c ∷ d ∷ rest) =
    if is_blank c then octets_with_room room (d ∷ rest)
    else octet_and_rest (digits_octet c d) room (octets_with_room (room - 1) rest)

-- Octets of a text of at most 4,194,304 bytes, at most 1,048,576 octets; or its first fault.
abbrev pub spelled_octets : List ℕ → Result (List ℕ) HexFault
spelled_octets text = if nat_lt 4194304 (length text) then Err TooLong else octets_with_room 1048576 text
