-- The filtering database: the VLANs with their members, and the static filtering entries (IEEE 802.1Q-2018, 8.8.1 and 8.8.2).
use Rattle.std.specs.Prelude.{ℕ, ◌&&◌, nat_eq, Option, Some, None, List, [], ◌∷◌, if◌then◌else◌}
use Rattle.std.specs.Str.{bytes_eq}
use Rattle.bridge_forward.specs.declared.Vlan.{Vlan}
use Rattle.bridge_forward.specs.declared.StaticEntry.{StaticEntry}

-- Filtering database of VLANs and static filtering entries; if several entries of a list have the same key, the first
-- of them applies.
pub record Database : Type 0 where
  pub vlans : List Vlan
  pub statics : List StaticEntry

-- Set of member ports of the first VLAN in the list with the identifier `vid`; `None` if no VLAN has this identifier.
abbrev pub vlan_members : List Vlan → ℕ → Option ℕ
vlan_members [] vid = None
vlan_members (v ∷ vs) vid = if nat_eq v.vid vid then Some v.members else vlan_members vs vid

-- Set of ports of the first static entry with VLAN `vid` and the address `address`; `None` if no entry has both.
abbrev pub static_ports : List StaticEntry → ℕ → List ℕ → Option ℕ
static_ports [] vid address = None
static_ports (e ∷ es) vid address = if nat_eq e.vid vid && bytes_eq e.address address then Some e.ports else static_ports es vid address
