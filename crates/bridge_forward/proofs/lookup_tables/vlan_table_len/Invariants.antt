use Rattle.std.proofs.Common.{◌<◌}
use Rattle.std.specs.List.{AllWithin}
use Rattle.bridge_forward.specs.declared.Vlan.{Vlan}
use Rattle.bridge_forward.proofs.lookup_tables.vlan_table_len.Given as goal

abbrev pub invariant-loop-vlan : goal.invariant-loop-vlan
invariant-loop-vlan l = AllWithin (λ (v : Vlan). v.vid < l.places) l.vlans 0 l.vlan-index
