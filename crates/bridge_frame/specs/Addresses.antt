-- Keys: a VLAN identifier and an address as one number.
use Rattle.std.specs.Prelude.{◌≡◌, ◌<◌, ◌^◌, ℕ, List, ◌++◌, length, slice_index}
use Rattle.std.specs.Int.{w16, w64, to_be_bytes, from_be_bytes}

-- Key of a VLAN identifier and an address: its 2 octets and then the 6 octets of the address, as one big-endian number.
unfoldable pub address_key : ℕ → List ℕ → ℕ
address_key vid address = from_be_bytes w64 (to_be_bytes w16 vid ++ address)

-- Holds if the VLAN identifier has 16 bits, the address has 6 octets, and their key fits 64 bits.
pub record IsKey (vid : ℕ) (address : List ℕ) : Type 0 where
  pub short : vid < 2 ^ 16
  pub six : length address ≡ 6
  pub octets : (i : ℕ) → slice_index address i < 256
  pub fits : address_key vid address < 2 ^ 64
