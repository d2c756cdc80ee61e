-- Hexadecimal text of captured frames, which the program prints if it has no arguments.
use Rattle.std.specs.Prelude.{ℕ, ◌/◌, ◌%◌, List, [], ◌∷◌, ◌++◌}
use Rattle.std.specs.Char.{digit_char}
use Rattle.std.specs.List.{flat_map}
use Rattle.bridge_capture.specs.Grammar.{CapturedFrame}
use Rattle.bridge_capture.specs.WrittenCapture.{written_header, written_frame}

-- Two lower-case hexadecimal digits of an octet, as the program prints them.
abbrev pub hex_digits : ℕ → List ℕ
hex_digits octet = digit_char (octet / 16) ∷ digit_char (octet % 16) ∷ []

-- A line of hexadecimal text: the digits of the octets, and a line feed.
abbrev pub hex_line : List ℕ → List ℕ
hex_line octets = flat_map hex_digits octets ++ 10 ∷ []

-- Text of a capture of these frames: a line for the header, and a line for each record.
unfoldable pub hex_text : List CapturedFrame → List ℕ
hex_text frames = hex_line written_header ++ flat_map (λ (frame : CapturedFrame). hex_line (written_frame frame)) frames
