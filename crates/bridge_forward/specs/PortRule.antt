-- Egress ports of a frame, decided for each port.
use Rattle.std.specs.Prelude.{ℕ, Bool, true, false, not, ◌&&◌, nat_eq, Option, Some, None, List}
use Rattle.bridge_forward.specs.Ports.{has_port}
use Rattle.bridge_forward.specs.Database.{Database, vlan_members, static_ports}
use Rattle.bridge_forward.specs.Forward.{is_reserved}

-- True if the set contains the port; `otherwise` if there is no set (`None`).
abbrev pub has_port_or : Bool → Option ℕ → ℕ → Bool
has_port_or otherwise None port = otherwise
has_port_or otherwise (Some set) port = has_port set port

-- True if the database has the VLAN `vid`, and `port` is one of its members.
abbrev pub is_member : Database → ℕ → ℕ → Bool
is_member db vid port = has_port_or false (vlan_members db.vlans vid) port

-- True if no static entry has the address `da` in VLAN `vid`, or if the first entry with this address and VLAN has
-- `port`.
abbrev pub is_allowed : Database → ℕ → List ℕ → ℕ → Bool
is_allowed db vid da port = has_port_or true (static_ports db.statics vid da) port

-- True if a frame to address `da` in VLAN `vid` that arrived on `port` leaves on port `q`.
abbrev pub is_output : Database → ℕ → ℕ → List ℕ → ℕ → Bool
is_output db port vid da q = not (is_reserved da) && is_member db vid port && is_member db vid q && not (nat_eq q port) && is_allowed db vid da q
