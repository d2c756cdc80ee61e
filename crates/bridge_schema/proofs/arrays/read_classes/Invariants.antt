use Rattle.std.proofs.Common.{◌≡◌, drop, take, length, ◌++◌, true}
use Rattle.toml.specs.View.{items_view}
use Rattle.bridge_schema.specs.Readers.{item_numbers, are_in_range}
use Rattle.bridge_schema.proofs.arrays.read_classes.Given as goal

abbrev pub invariant-items : goal.invariant-items
invariant-items l = record {
  rest : are_in_range 0 7 (items_view (drop l.i l.items)) ≡ true;
  eight : length l.out ≡ 8;
  same : take l.i l.out ++ item_numbers (items_view (drop l.i l.items)) ≡ item_numbers (items_view l.items);
}
