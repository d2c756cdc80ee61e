-- Egress ports of a frame (IEEE 802.1Q-2018, 8.6.2 to 8.6.4).
use Rattle.std.specs.Prelude.{ℕ, Bool, ◌&&◌, nat_le, Option, Some, None, List, [], ◌∷◌, bit_and, take, slice_index, if◌then◌else◌}
use Rattle.std.specs.Str.{bytes_eq}
use Rattle.bridge_forward.specs.Ports.{has_port, without_port}
use Rattle.bridge_forward.specs.Database.{Database, vlan_members, static_ports}

-- True for addresses 01-80-C2-00-00-00 to 01-80-C2-00-00-0F, which a bridge never relays (IEEE 802.1Q-2018, 8.6.3).
abbrev pub is_reserved : List ℕ → Bool
is_reserved da = bytes_eq (take 5 da) (1 ∷ 128 ∷ 194 ∷ 0 ∷ 0 ∷ []) && nat_le (slice_index da 5) 15

-- Set of the VLAN's member ports that are also ports of the static entry; all member ports if there is no entry
-- (`None`).
abbrev pub allowed_members : ℕ → Option ℕ → ℕ
allowed_members members None = members
allowed_members members (Some ports) = bit_and ports members

-- Set of allowed egress ports without the ingress port `port`; empty if the VLAN is unknown (`None`) or lacks the
-- ingress port.
abbrev pub output_ports : Option ℕ → Option ℕ → ℕ → ℕ
output_ports None entry port = 0
output_ports (Some members) entry port = if has_port members port then without_port (allowed_members members entry) port else 0

-- Set of egress ports of a frame to address `da` in VLAN `vid` that arrived at `port`; empty if the address is
-- reserved.
abbrev pub forward : Database → ℕ → ℕ → List ℕ → ℕ
forward db port vid da = if is_reserved da then 0 else output_ports (vlan_members db.vlans vid) (static_ports db.statics vid da) port
