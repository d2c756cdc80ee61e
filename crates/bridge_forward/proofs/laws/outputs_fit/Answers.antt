use Rattle.bridge_forward.specs.Database.{vlan_members, static_ports}
use Rattle.bridge_forward.specs.Forward.{is_reserved}
use Rattle.bridge_forward.proofs.Memberships.{goes_to_fits}
use Rattle.bridge_forward.proofs.laws.outputs_fit.Goals as goal

pub returns : goal.returns
returns c = λ db port vid da. goes_to_fits (is_reserved da) (vlan_members db.vlans vid) (static_ports db.statics vid da) port
