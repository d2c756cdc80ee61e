use Rattle.std.proofs.Common.{◌≡◌, All, drop}
use Rattle.toml.specs.View.{items_view}
use Rattle.bridge_schema.specs.Readers.{read_entries, with_prefix}
use Rattle.bridge_schema.proofs.list_entries.read_entries.Given as goal

abbrev pub invariant-items : goal.invariant-items
invariant-items g l = record {
  same : with_prefix l.list.items (read_entries (g.E.ListEntry.reading l.entry) (items_view (drop l.item-index l.items))) ≡ read_entries (g.E.ListEntry.reading l.entry) (items_view l.items);
  fits : All (g.E.ListEntry.Fits l.entry) l.list.items;
}
