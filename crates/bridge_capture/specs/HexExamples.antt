-- Examples of hexadecimal texts and their octets.
use Rattle.std.specs.Prelude.{◌≡◌, [], ◌∷◌, codes, Ok, Err, refl}
use Rattle.bridge_capture.specs.declared.hex_fault.HexFault.TheVariants.{NotHex, TooLong}
use Rattle.bridge_capture.specs.Hex.{spelled_octets, octets_with_room}
use Rattle.bridge_capture.specs.HexLines.{hex_line}

either_case : spelled_octets (codes "4d 3C\nB2\ta1") ≡ Ok (0x4d ∷ 0x3c ∷ 0xb2 ∷ 0xa1 ∷ [])
unfolding octets_with_room
either_case = refl

lone_digit : spelled_octets (codes "4") ≡ Err NotHex
unfolding octets_with_room
lone_digit = refl

blank_in_a_pair : spelled_octets (codes "4 d") ≡ Err NotHex
unfolding octets_with_room
blank_in_a_pair = refl

no_digit : spelled_octets (codes "4x") ≡ Err NotHex
unfolding octets_with_room
no_digit = refl

no_room : octets_with_room 1 (codes "4d 3c") ≡ Err TooLong
unfolding octets_with_room
no_room = refl

no_room_and_no_digit : octets_with_room 1 (codes "4d 3x") ≡ Err NotHex
unfolding octets_with_room
no_room_and_no_digit = refl

a_line : hex_line (0x4d ∷ 0xb2 ∷ []) ≡ codes "4db2\n"
a_line = refl
