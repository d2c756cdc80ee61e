use Rattle.std.proofs.Common.{◌≡◌, drop}
use Rattle.toml.specs.View.{items_view}
use Rattle.bridge_schema.specs.Readers.{are_in_range}
use Rattle.bridge_schema.proofs.arrays.are_in_range.Given as goal

abbrev pub invariant-items : goal.invariant-items
invariant-items l = are_in_range l.low l.high (items_view (drop l.item-index l.items)) ≡ are_in_range l.low l.high (items_view l.items)
