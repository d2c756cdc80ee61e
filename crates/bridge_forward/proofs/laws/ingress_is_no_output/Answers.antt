use Rattle.bridge_forward.specs.Database.{vlan_members, static_ports}
use Rattle.bridge_forward.specs.Forward.{is_reserved}
use Rattle.bridge_forward.proofs.Memberships.{not_back}
use Rattle.bridge_forward.proofs.laws.ingress_is_no_output.Goals as goal

pub returns : goal.returns
returns c = λ db port vid da. not_back (is_reserved da) (vlan_members db.vlans vid) (static_ports db.statics vid da) port
