use Rattle.bridge_forward.specs.Database.{vlan_members, static_ports}
use Rattle.bridge_forward.specs.Forward.{is_reserved}
use Rattle.bridge_forward.proofs.Memberships.{members_only}
use Rattle.bridge_forward.proofs.laws.outputs_are_members.Goals as goal

pub returns : goal.returns
returns c = λ db port vid da q. members_only (is_reserved da) (vlan_members db.vlans vid) (static_ports db.statics vid da) port q
