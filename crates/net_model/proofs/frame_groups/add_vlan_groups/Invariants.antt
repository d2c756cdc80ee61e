use Rattle.std.proofs.Common.{◌≡◌, take, fold}
use Rattle.net_model.specs.FrameGroups.{with_vlan}
use Rattle.net_model.proofs.frame_groups.add_vlan_groups.Given as goal

abbrev pub invariant-loop-vlan : goal.invariant-loop-vlan
invariant-loop-vlan g l = l.groups.items ≡ fold with_vlan l.initial.groups.items (take l.vlan-index l.vlans)
