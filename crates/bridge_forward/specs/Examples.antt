-- Examples of egress ports: VLAN 10 of ports 1, 2 and 3, and a static entry of VLAN 10 that sends 02-00-00-00-00-0A to port 3.
use Rattle.std.specs.Prelude.{◌≡◌, ℕ, true, false, ◌+◌, ◌-◌, ◌^◌, List, [], ◌∷◌, map, refl}
use Rattle.bridge_forward.specs.Ports.{has_port, without_port}
use Rattle.bridge_forward.specs.Database.{Database}
use Rattle.bridge_forward.specs.Forward.{forward, is_reserved}
use Rattle.bridge_forward.specs.PortRule.{is_output}

-- Unicast address with the last octet `n`.
abbrev host : ℕ → List ℕ
host n = 2 ∷ 0 ∷ 0 ∷ 0 ∷ 0 ∷ n ∷ []

-- Address 01-80-C2-00-00-`n`; the reserved addresses have `n` from 00 to 0F.
abbrev group : ℕ → List ℕ
group n = 1 ∷ 0x80 ∷ 0xc2 ∷ 0 ∷ 0 ∷ n ∷ []

-- Set of the ports with these numbers, which must be different.
abbrev ports : List ℕ → ℕ
ports [] = 0
ports (n ∷ ns) = 2 ^ (n - 1) + ports ns

abbrev db : Database
db = record {
  vlans = record { vid = 10; members = ports (1 ∷ 2 ∷ 3 ∷ []) } ∷ [];
  statics = record { vid = 10; address = host 0x0a; ports = ports (3 ∷ []) } ∷ [];
}

by_entry : forward db 1 10 (host 0x0a) ≡ ports (3 ∷ [])
by_entry = refl

not_back_by_entry : forward db 3 10 (host 0x0a) ≡ ports []
not_back_by_entry = refl

by_members : forward db 1 10 (host 0x0b) ≡ ports (2 ∷ 3 ∷ [])
by_members = refl

not_back_by_members : forward db 2 10 (host 0x0b) ≡ ports (1 ∷ 3 ∷ [])
not_back_by_members = refl

first_reserved : forward db 1 10 (group 0x00) ≡ ports []
first_reserved = refl

reserved : forward db 1 10 (group 0x0e) ≡ ports []
reserved = refl

last_reserved : forward db 1 10 (group 0x0f) ≡ ports []
last_reserved = refl

past_the_reserved : forward db 1 10 (group 0x10) ≡ ports (2 ∷ 3 ∷ [])
past_the_reserved = refl

no_vlan : forward db 1 20 (host 0x0a) ≡ ports []
no_vlan = refl

no_member : forward db 4 10 (host 0x0a) ≡ ports []
no_member = refl

-- Examples of precedence: VLAN 10 is listed twice, and so is a static entry. Only the first one of each applies.

abbrev twice : Database
twice = record {
  vlans = record { vid = 10; members = ports (1 ∷ 2 ∷ 3 ∷ []) } ∷ record { vid = 10; members = ports (1 ∷ 2 ∷ 3 ∷ 4 ∷ []) } ∷ record { vid = 20; members = ports (1 ∷ 4 ∷ []) } ∷ [];
  statics = record { vid = 20; address = host 0x0a; ports = ports (4 ∷ []) } ∷ record { vid = 10; address = host 0x0a; ports = ports (3 ∷ 4 ∷ []) } ∷ record { vid = 10; address = host 0x0a; ports = ports (2 ∷ []) } ∷ [];
}

first_vlan : forward twice 1 10 (host 0x0b) ≡ ports (2 ∷ 3 ∷ [])
first_vlan = refl

first_entry_cut_to_members : forward twice 1 10 (host 0x0a) ≡ ports (3 ∷ [])
first_entry_cut_to_members = refl

entry_of_the_other_vlan : forward twice 1 20 (host 0x0a) ≡ ports (4 ∷ [])
entry_of_the_other_vlan = refl

-- Example of the rule for single ports.

port_by_port : map (is_output twice 1 10 (host 0x0a)) (1 ∷ 2 ∷ 3 ∷ 4 ∷ []) ≡ map (has_port (ports (3 ∷ []))) (1 ∷ 2 ∷ 3 ∷ 4 ∷ [])
port_by_port = refl

-- The set 5 has the ports 1 and 3; the set 7 also has port 2.

pub port_3_is_in_the_set : has_port 5 3 ≡ true
port_3_is_in_the_set = refl

pub port_2_is_not_in_the_set : has_port 5 2 ≡ false
port_2_is_not_in_the_set = refl

pub without_port_2 : without_port 7 2 ≡ 5
without_port_2 = refl

pub last_reserved_address : is_reserved (1 ∷ 128 ∷ 194 ∷ 0 ∷ 0 ∷ 15 ∷ []) ≡ true
last_reserved_address = refl

pub next_address : is_reserved (1 ∷ 128 ∷ 194 ∷ 0 ∷ 0 ∷ 16 ∷ []) ≡ false
next_address = refl
