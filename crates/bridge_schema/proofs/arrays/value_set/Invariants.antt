use Rattle.std.proofs.Common.{◌≡◌, ◌<◌, ◌^◌, ◌-◌, ◌+◌, drop, true}
use Rattle.toml.specs.View.{items_view}
use Rattle.bridge_schema.specs.Readers.{add_to_set, item_numbers, are_in_range}
use Rattle.bridge_schema.proofs.arrays.value_set.Given as goal

abbrev pub invariant-items : goal.invariant-items
invariant-items l = record {
  rest : are_in_range l.low l.high (items_view (drop l.item-index l.items)) ≡ true;
  same : add_to_set l.low l.bits (item_numbers (items_view (drop l.item-index l.items))) ≡ add_to_set l.low 0 (item_numbers (items_view l.items));
  fits : l.bits < 2 ^ (l.high - l.low + 1);
}
