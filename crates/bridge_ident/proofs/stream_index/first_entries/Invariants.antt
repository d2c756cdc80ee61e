use Rattle.std.proofs.Common.{◌≡◌, ℕ, List, drop, nat_eq}
use Rattle.std.specs.Option.{option_or}
use Rattle.indexmap.specs.IndexMap.{get}
use Rattle.bridge_frame.specs.Addresses.{IsKey}
use Rattle.bridge_ident.specs.StreamIndex.{HasMarks, first_entry, entry_key}
use Rattle.bridge_ident.proofs.stream_index.first_entries.Given as goal

-- The found entry, or the first of the remaining entries, is the first of all entries. Each found key is marked.
abbrev pub invariant-loop-place : goal.invariant-loop-place
invariant-loop-place g l = record {
  found : (port vid : ℕ) (address : List ℕ) → IsKey vid address → option_or (get nat_eq l.firsts (entry_key port vid address)) (first_entry l.kind l.tagged l.place (drop l.place l.entries) port vid address) ≡ first_entry l.kind l.tagged 0 l.entries port vid address;
  marked : HasMarks l.firsts l.marks;
}
