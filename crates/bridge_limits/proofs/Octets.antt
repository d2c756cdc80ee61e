-- Equality of octets, and the eight octets of a VLAN identifier and an address.
use Rattle.std.proofs.Common.{◌≡◌, ℕ, zero, suc, ◌<◌, true, List, length, get_or, slice_index, ◌++◌, arith}
use Rattle.std.specs.Int.{w16, to_be_bytes}
use Rattle.std.specs.Str.{bytes_eq, IsUtf8}
use Rattle.std.specs.Str.Lossy.{utf8_valid_len}
use Rattle.std.proofs.lemmas.Nat.{mod_below}
use Rattle.std.proofs.lemmas.Str.{utf8_valid_len-IsUtf8}
use Rattle.std.proofs.lemmas.Slice.Eq.{bytes_eq-Decides}

-- Octets that pass the equality test are equal.
pub same_bytes : (xs ys : List ℕ) → bytes_eq xs ys ≡ true → xs ≡ ys
same_bytes xs ys h = (bytes_eq-Decides xs ys).0 h

-- The two octets of a VLAN identifier, then the octets of an address.
abbrev pub octets_of : ℕ → List ℕ → List ℕ
octets_of vid address = to_be_bytes w16 vid ++ address

pub octet_below : (vid : ℕ) (address : List ℕ) → ((i : ℕ) → slice_index address i < 256) → (i : ℕ) → get_or (octets_of vid address) i 0 < 256
octet_below vid address few zero = mod_below _ 256 (omega arith)
octet_below vid address few (suc zero) = mod_below _ 256 (omega arith)
octet_below vid address few (suc (suc i)) = few i

pub eight : (vid : ℕ) (address : List ℕ) → length address ≡ 6 → length (octets_of vid address) ≡ 8
eight vid address six = omega (arith, six)

-- All octets of a valid UTF-8 text are its longest valid prefix.
pub utf8_whole : (bs : List ℕ) → IsUtf8 bs → utf8_valid_len bs ≡ length bs
utf8_whole = utf8_valid_len-IsUtf8
