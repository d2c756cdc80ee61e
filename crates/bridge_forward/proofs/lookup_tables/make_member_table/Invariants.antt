use Rattle.std.proofs.Common.{◌≡◌, ◌<◌, ℕ, All, drop, length}
use Rattle.std.specs.Option.{option_or}
use Rattle.bridge_forward.specs.declared.Vlan.{Vlan}
use Rattle.bridge_forward.specs.Database.{vlan_members}
use Rattle.bridge_forward.specs.LookupTables.{vlan_slot}
use Rattle.bridge_forward.proofs.lookup_tables.make_member_table.Given as goal

-- The found members, or the members in the remaining VLANs, are the members in the whole list.
abbrev pub invariant-loop-vlan : goal.invariant-loop-vlan
invariant-loop-vlan g l =
    (All (λ (v : Vlan). v.vid < length l.members.items) l.vlans) × ((vid : ℕ) → option_or (vlan_slot l.members.items vid) (vlan_members (drop l.vlan-index l.vlans) vid) ≡ vlan_members l.vlans vid)
