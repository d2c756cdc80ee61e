use Rattle.bridge_forward.specs.Database.{vlan_members, static_ports}
use Rattle.bridge_forward.specs.Forward.{is_reserved}
use Rattle.bridge_forward.proofs.Memberships.{has_goes_to}
use Rattle.bridge_forward.proofs.laws.forward_is_port_rule.Goals as goal

pub returns : goal.returns
returns c = λ db port vid da q. has_goes_to (is_reserved da) (vlan_members db.vlans vid) (static_ports db.statics vid da) port q
