-- Different triples of port, VLAN identifier and address have different keys.
use Rattle.std.proofs.Common.{◌≡◌, ℕ, ◌+◌, ◌*◌, ◌^◌, ◌<◌, ◌&&◌, nat_eq, List, refl, arith}
use Rattle.std.specs.Str.{bytes_eq}
use Rattle.std.proofs.lemmas.Bool.Decides.{same_from_decides, Decides-like, Decides-eqb, Decides-and}
use Rattle.std.proofs.lemmas.Slice.Eq.{bytes_eq-Decides}
use Rattle.bridge_frame.specs.Addresses.{IsKey, address_key}
use Rattle.bridge_frame.proofs.Addresses.{same_address, same_vid}
use Rattle.bridge_ident.specs.StreamIndex.{entry_key}

-- Equal numbers of a high part and a low part below 2^64 have equal parts.
same_parts : (p q x y : ℕ) → x < 2 ^ 64 → y < 2 ^ 64 → p * 2 ^ 64 + x ≡ q * 2 ^ 64 + y → (p ≡ q) × (x ≡ y)
same_parts p q x y k l e = (omega arith, omega arith)

key_parts : (p q v w : ℕ) (a b : List ℕ) → IsKey v a → IsKey w b → entry_key p v a ≡ entry_key q w b → (p ≡ q) × (address_key v a ≡ address_key w b)
unfolding entry_key
key_parts p q v w a b k l e = same_parts p q (address_key v a) (address_key w b) k.fits l.fits e

-- Two keys are equal exactly if ports, VLAN identifiers and addresses are equal.
pub same_key : (p q v w : ℕ) (a b : List ℕ) → IsKey v a → IsKey w b → nat_eq (entry_key p v a) (entry_key q w b) ≡ (nat_eq p q && nat_eq v w && bytes_eq a b)
same_key p q v w a b k l =
    let all : (entry_key p v a ≡ entry_key q w b) → ((p ≡ q) × (v ≡ w)) × (a ≡ b) = λ e. let parts = key_parts p q v w a b k l e in ((parts.0, same_vid v w a b k l parts.1), same_address v w a b k l parts.1) in
    let one : ((p ≡ q) × (v ≡ w)) × (a ≡ b) → entry_key p v a ≡ entry_key q w b = λ s. rw (s.0.0, s.0.1, s.1) refl in
    same_from_decides (nat_eq (entry_key p v a) (entry_key q w b)) (nat_eq p q && nat_eq v w && bytes_eq a b) (Decides-like (nat_eq (entry_key p v a) (entry_key q w b)) all one (Decides-eqb (entry_key p v a) (entry_key q w b))) (Decides-and (nat_eq p q && nat_eq v w) (bytes_eq a b) (Decides-and (nat_eq p q) (nat_eq v w) (Decides-eqb p q) (Decides-eqb v w)) (bytes_eq-Decides a b))
