use Rattle.std.proofs.Common.{◌∙◌, ap, false}
use Rattle.bridge_forward.specs.Ports.{has_port}
use Rattle.bridge_forward.proofs.Memberships.{not_back}
use Rattle.bridge_forward.proofs.forwarding.Forwarding.forward.Goals as goal

pub returns-clause-not_back : goal.returns-clause-not_back
returns-clause-not_back g c = ap (λ set. has_port set c.args.port) c.output_ports.ensures ∙ not_back false c.vlan_members.result c.static_ports.result c.args.port c.requires.from c.requires.to
