-- Tables of a filtering database. No public clause uses these definitions.
use Rattle.std.specs.Prelude.{◌≡◌, ℕ, nat_eq, Option, None, List, slice_get, unwrap_or}
use Rattle.indexmap.specs.IndexMap.{IndexMap, get}
use Rattle.bridge_frame.specs.Addresses.{IsKey, address_key}
use Rattle.bridge_forward.specs.declared.Vlan.{Vlan}
use Rattle.bridge_forward.specs.declared.StaticEntry.{StaticEntry}
use Rattle.bridge_forward.specs.Database.{vlan_members, static_ports}

-- Set of ports at index `place` of the table of members; `None` if the table is too short, or has no set at this index.
abbrev pub vlan_slot : List (Option ℕ) → ℕ → Option ℕ
vlan_slot sets place = unwrap_or (slice_get sets place) None

-- Holds if look-ups in both tables give the results of searches in the lists of VLANs and static entries.
pub record HasTables {T : Type 0} (vlans : List Vlan) (statics : List StaticEntry) (members : List (Option ℕ)) (entries : IndexMap ℕ ℕ T) : Type 0 where
  pub members_found : (vid : ℕ) → vlan_slot members vid ≡ vlan_members vlans vid
  pub entry_found : (vid : ℕ) (address : List ℕ) → IsKey vid address → get nat_eq entries (address_key vid address) ≡ static_ports statics vid address
