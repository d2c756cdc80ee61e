-- Octets of a hexadecimal text, pair by pair from the left.
use Rattle.std.proofs.Common.{◌≡◌, ℕ, ◌-◌, ◌<◌, ◌≤◌, true, false, List, [], ◌∷◌, ◌++◌, Option, Some, None, Result, Ok, Err, refl, sym, ap, ◌∙◌, append_assoc, length, subst, arith}
use Rattle.std.proofs.lemmas.Bool.{le-ltb}
use Rattle.std.proofs.lemmas.List.{append-nil}
use Rattle.bridge_capture.proofs.Fronts.{not_zero}
use Rattle.bridge_capture.specs.declared.hex_fault.HexFault.{HexFault}
use Rattle.bridge_capture.specs.declared.hex_fault.HexFault.TheVariants.{NotHex, TooLong}
use Rattle.bridge_capture.specs.Hex.{is_blank, digits_octet, with_octet, octet_and_rest, octets_with_room, spelled_octets}

-- Prepends the octets so far to the result for the rest.
abbrev pub before : List ℕ → Result (List ℕ) HexFault → Result (List ℕ) HexFault
before octets (Ok others) = Ok (octets ++ others)
before octets (Err fault) = Err fault

before_one : (octets : List ℕ) (octet : ℕ) (others : Result (List ℕ) HexFault) → before octets (with_octet octet others) ≡ before (octets ++ octet ∷ []) others
before_one octets octet (Ok others) = ap (λ (l : List ℕ). Ok l) (sym (append_assoc octets (octet ∷ []) others))
before_one octets octet (Err fault) = refl

in_limit : (text : List ℕ) (answer : Result (List ℕ) HexFault) → length text ≤ 4194304 → octets_with_room 1048576 text ≡ answer → spelled_octets text ≡ answer
in_limit text answer short e = rw (le-ltb 4194304 (length text) short) e

-- Holds if the octets so far, followed by the octets of the rest, are the result for the whole text.
abbrev pub SpelledSoFar : List ℕ → List ℕ → ℕ → List ℕ → Type 0
SpelledSoFar text octets room rest = octets_with_room 1048576 text ≡ before octets (octets_with_room room rest)

spelled_at : (text octets : List ℕ) (room : ℕ) (rest other : List ℕ) → rest ≡ other → SpelledSoFar text octets room rest → SpelledSoFar text octets room other
spelled_at text octets room rest other e h = subst (SpelledSoFar text octets room) e h

-- No characters remain.
within_nothing : (room : ℕ) (rest : List ℕ) → length rest ≡ 0 → octets_with_room room rest ≡ Ok []
unfolding octets_with_room
within_nothing room [] none = refl
within_nothing room (c ∷ rest) none = absurd (omega arith)

pub at_end : (text octets : List ℕ) (room : ℕ) (rest : List ℕ) → length text ≤ 4194304 → length rest ≡ 0 → SpelledSoFar text octets room rest → spelled_octets text ≡ Ok octets
at_end text octets room rest short none h = in_limit text (Ok octets) short (h ∙ ap (before octets) (within_nothing room rest none) ∙ ap (λ (l : List ℕ). Ok l) (append-nil octets))

-- The next character is a blank.
within_blank : (room c : ℕ) (behind : List ℕ) → is_blank c ≡ true → octets_with_room room (c ∷ behind) ≡ octets_with_room room behind
unfolding octets_with_room
within_blank room c [] blank = rw blank refl
within_blank room c (d ∷ rest) blank = rw blank refl

pub at_blank : (text octets : List ℕ) (room c : ℕ) (rest behind : List ℕ) → rest ≡ c ∷ behind → is_blank c ≡ true → SpelledSoFar text octets room rest → SpelledSoFar text octets room behind
at_blank text octets room c rest behind is blank h = spelled_at text octets room rest (c ∷ behind) is h ∙ ap (before octets) (within_blank room c behind blank)

-- The last character is a lone digit.
within_lone : (room c : ℕ) (behind : List ℕ) → length behind ≡ 0 → is_blank c ≡ false → octets_with_room room (c ∷ behind) ≡ Err NotHex
unfolding octets_with_room
within_lone room c [] none sign = rw sign refl
within_lone room c (d ∷ rest) none sign = absurd (omega arith)

pub at_lone : (text octets : List ℕ) (room c : ℕ) (rest behind : List ℕ) → length text ≤ 4194304 → rest ≡ c ∷ behind → length behind ≡ 0 → is_blank c ≡ false → SpelledSoFar text octets room rest → spelled_octets text ≡ Err NotHex
at_lone text octets room c rest behind short is none sign h =
    in_limit text (Err NotHex) short (spelled_at text octets room rest (c ∷ behind) is h ∙ ap (before octets) (within_lone room c behind none sign))

-- The next two characters are a pair.
within_pair : (room c d : ℕ) (rest : List ℕ) → is_blank c ≡ false → octets_with_room room (c ∷ d ∷ rest) ≡ octet_and_rest (digits_octet c d) room (octets_with_room (room - 1) rest)
unfolding octets_with_room
within_pair room c d rest sign = rw sign refl

at_pair : (text octets : List ℕ) (room c d : ℕ) (rest behind more : List ℕ) (found : Option ℕ) → rest ≡ c ∷ behind → behind ≡ d ∷ more → is_blank c ≡ false → digits_octet c d ≡ found → SpelledSoFar text octets room rest
    → octets_with_room 1048576 text ≡ before octets (octet_and_rest found room (octets_with_room (room - 1) more))
at_pair text octets room c d rest behind more found is next sign e h =
    let both : rest ≡ c ∷ d ∷ more = cc in
    spelled_at text octets room rest (c ∷ d ∷ more) both h ∙ ap (before octets) (within_pair room c d more sign ∙ ap (λ (o : Option ℕ). octet_and_rest o room (octets_with_room (room - 1) more)) e)

pub at_no_octet : (text octets : List ℕ) (room c d : ℕ) (rest behind more : List ℕ) → length text ≤ 4194304 → rest ≡ c ∷ behind → behind ≡ d ∷ more → is_blank c ≡ false → digits_octet c d ≡ None → SpelledSoFar text octets room rest
    → spelled_octets text ≡ Err NotHex
at_no_octet text octets room c d rest behind more short is next sign none h = in_limit text (Err NotHex) short (at_pair text octets room c d rest behind more None is next sign none h)

joined_full : (room octet : ℕ) (others : Result (List ℕ) HexFault) → room ≡ 0 → octet_and_rest (Some octet) room others ≡ Err TooLong
joined_full room octet others full = rw full refl

pub at_no_room : (text octets : List ℕ) (room c d octet : ℕ) (rest behind more : List ℕ) → length text ≤ 4194304 → rest ≡ c ∷ behind → behind ≡ d ∷ more → is_blank c ≡ false → digits_octet c d ≡ Some octet → room ≡ 0
    → SpelledSoFar text octets room rest → spelled_octets text ≡ Err TooLong
at_no_room text octets room c d octet rest behind more short is next sign some full h =
    in_limit text (Err TooLong) short (at_pair text octets room c d rest behind more (Some octet) is next sign some h ∙ ap (before octets) (joined_full room octet (octets_with_room (room - 1) more) full))

joined_free : (room octet : ℕ) (others : Result (List ℕ) HexFault) → 0 < room → octet_and_rest (Some octet) room others ≡ with_octet octet others
joined_free room octet others free = rw (not_zero room free) refl

pub at_octet : (text octets : List ℕ) (room c d octet : ℕ) (rest behind more : List ℕ) → rest ≡ c ∷ behind → behind ≡ d ∷ more → is_blank c ≡ false → digits_octet c d ≡ Some octet → 0 < room
    → SpelledSoFar text octets room rest → SpelledSoFar text (octets ++ octet ∷ []) (room - 1) more
at_octet text octets room c d octet rest behind more is next sign some free h =
    at_pair text octets room c d rest behind more (Some octet) is next sign some h ∙ ap (before octets) (joined_free room octet (octets_with_room (room - 1) more) free) ∙ before_one octets octet (octets_with_room (room - 1) more)
