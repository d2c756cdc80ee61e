use Rattle.std.proofs.Common.{◌≡◌, drop}
use Rattle.toml.specs.View.{items_view}
use Rattle.bridge_schema.specs.Readers.{are_integers}
use Rattle.bridge_schema.proofs.arrays.are_integers.Given as goal

abbrev pub invariant-items : goal.invariant-items
invariant-items l = are_integers (items_view (drop l.item-index l.items)) ≡ are_integers (items_view l.items)
