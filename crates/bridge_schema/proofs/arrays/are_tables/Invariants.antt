use Rattle.std.proofs.Common.{◌≡◌, drop}
use Rattle.toml.specs.View.{items_view}
use Rattle.bridge_schema.specs.Readers.{are_tables}
use Rattle.bridge_schema.proofs.arrays.are_tables.Given as goal

abbrev pub invariant-items : goal.invariant-items
invariant-items l = are_tables (items_view (drop l.item-index l.items)) ≡ are_tables (items_view l.items)
