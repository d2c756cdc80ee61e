use Rattle.std.proofs.Common.{◌≡◌, ℕ, List, drop, nat_eq}
use Rattle.std.specs.Option.{option_or}
use Rattle.indexmap.specs.IndexMap.{get}
use Rattle.bridge_forward.specs.Database.{static_ports}
use Rattle.bridge_frame.specs.Addresses.{IsKey, address_key}
use Rattle.bridge_forward.proofs.lookup_tables.make_static_table.Given as goal

-- The found ports, or the ports in the remaining entries, are the ports in the whole list.
abbrev pub invariant-loop-entry : goal.invariant-loop-entry
invariant-loop-entry g l = (vid : ℕ) (address : List ℕ) → IsKey vid address → option_or (get nat_eq l.entries (address_key vid address)) (static_ports (drop l.entry-index l.statics) vid address) ≡ static_ports l.statics vid address
