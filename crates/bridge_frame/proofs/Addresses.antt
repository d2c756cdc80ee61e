-- Different pairs of VLAN identifier and address have different keys.
use Rattle.std.proofs.Common.{◌≡◌, ℕ, ◌&&◌, nat_eq, List, take, drop, refl, sym, ap, ◌∙◌}
use Rattle.std.specs.Int.{w16, from_be_bytes}
use Rattle.std.specs.Str.{bytes_eq}
use Rattle.std.proofs.lemmas.Nat.{be_bytes_8, from_be_bytes-to_be_bytes_2}
use Rattle.std.proofs.lemmas.Bool.Decides.{same_from_decides, Decides-like, Decides-eqb, Decides-and}
use Rattle.std.proofs.lemmas.Slice.Eq.{bytes_eq-Decides}
use Rattle.bridge_limits.proofs.Octets.{octets_of, octet_below, eight}
use Rattle.bridge_frame.specs.Addresses.{IsKey, address_key}

-- Equal keys have equal octets.
same_octets : (v w : ℕ) (a b : List ℕ) → IsKey v a → IsKey w b → address_key v a ≡ address_key w b → octets_of v a ≡ octets_of w b
unfolding address_key
same_octets v w a b k l e = sym (be_bytes_8 (octets_of v a) (address_key v a) (eight v a k.six) (octet_below v a k.octets) refl) ∙ be_bytes_8 (octets_of w b) (address_key v a) (eight w b l.six) (octet_below w b l.octets) e

pub same_address : (v w : ℕ) (a b : List ℕ) → IsKey v a → IsKey w b → address_key v a ≡ address_key w b → a ≡ b
same_address v w a b k l e = ap (drop 2) (same_octets v w a b k l e)

pub same_vid : (v w : ℕ) (a b : List ℕ) → IsKey v a → IsKey w b → address_key v a ≡ address_key w b → v ≡ w
same_vid v w a b k l e = sym (from_be_bytes-to_be_bytes_2 v k.short) ∙ (ap (λ (xs : List ℕ). from_be_bytes w16 (take 2 xs)) (same_octets v w a b k l e) ∙ from_be_bytes-to_be_bytes_2 w l.short)

-- Two keys are equal exactly if the VLAN identifiers and the addresses are equal.
pub same_key : (v w : ℕ) (a b : List ℕ) → IsKey v a → IsKey w b → nat_eq (address_key v a) (address_key w b) ≡ (nat_eq v w && bytes_eq a b)
same_key v w a b k l =
    let both : (address_key v a ≡ address_key w b) → (v ≡ w) × (a ≡ b) = λ e. (same_vid v w a b k l e, same_address v w a b k l e) in
    let one : (v ≡ w) × (a ≡ b) → address_key v a ≡ address_key w b = λ s. rw (s.0, s.1) refl in
    same_from_decides (nat_eq (address_key v a) (address_key w b)) (nat_eq v w && bytes_eq a b) (Decides-like (nat_eq (address_key v a) (address_key w b)) both one (Decides-eqb (address_key v a) (address_key w b))) (Decides-and (nat_eq v w) (bytes_eq a b) (Decides-eqb v w) (bytes_eq-Decides a b))
