-- Texts that stay on one line, because control characters are escaped.
use Rattle.std.specs.Prelude.{ℕ, ◌/◌, ◌%◌, Bool, ◌&&◌, ◌||◌, List, [], ◌∷◌, ◌++◌, ◌==◌, chars, codes, encode_utf8, flat_map, if◌then◌else◌, nat_le, nat_lt}
use Rattle.std.specs.Char.{digit_char}

-- True if a character is a control character: U+0000 to U+001F, or U+007F to U+009F.
abbrev pub is_control : ℕ → Bool
is_control c = nat_lt c 32 || (nat_le 127 c && nat_lt c 160)

-- A number below 256 in hexadecimal digits, without a leading zero.
abbrev pub hexadecimal : ℕ → List ℕ
hexadecimal n = if nat_lt n 16 then digit_char n ∷ [] else digit_char (n / 16) ∷ digit_char (n % 16) ∷ []

-- The escape of a control character, as Rust writes it: `\t`, `\n`, `\r`, else `\u{..}` with the code in hexadecimal.
abbrev pub control_escape : ℕ → List ℕ
control_escape c =
    if c == 9 then codes "\\t"
    else (if c == 10 then codes "\\n"
    else (if c == 13 then codes "\\r"
    else (codes "\\u{" ++ (hexadecimal c ++ codes "}"))))

-- Octets written for a character: the escape of a control character, or the character's UTF-8 octets.
abbrev pub escaped_letter : ℕ → List ℕ
escaped_letter c = if is_control c then control_escape c else encode_utf8 c

-- The octets of a text with its control characters escaped.
unfoldable pub escaped : List ℕ → List ℕ
escaped text = flat_map escaped_letter (chars text)
