use Rattle.std.proofs.Common.{◌≡◌, drop}
use Rattle.bridge_forward.specs.Database.{vlan_members}
use Rattle.bridge_forward.proofs.find_members.Given as goal

abbrev pub invariant-loop-vlan : goal.invariant-loop-vlan
invariant-loop-vlan l = vlan_members l.vlans l.vid ≡ vlan_members (drop l.vlan-index l.vlans) l.vid
