use Rattle.std.proofs.Common.{◌≡◌, ◌<◌, get_or, length, arith, sym, ap, ◌∙◌}
use Rattle.std.proofs.lemmas.Grind.{common_steps}
use Rattle.toml.specs.View.{items_view}
use Rattle.bridge_schema.specs.Readers.{item_numbers, are_numbers_in_range}
use Rattle.bridge_schema.proofs.Sets.{front_at, put_number, all_put, numbers_within}
use Rattle.bridge_schema.proofs.arrays.read_rooms.Goals as goal

pub items-preserved : goal.items-preserved
items-preserved c =
    let i = c.items.i in
    let v = c.index-items-i.result in
    let vs = c.args.items.now in
    let at : get_or vs i v ≡ v = sym c.index-items-i.is in
    let here : i < length vs = c.items-test.true in
    record {
      rest = (front_at _ _ i vs v here at c.items.invariant.rest).rest;
      eight = grind (arith, common_steps);
      same = put_number c.items.out _ i c.value_number.result vs v here (omega (arith, c.items.invariant.eight, c.requires.eight)) at c.value_number.ensures c.items.invariant.same;
    }

pub returns : goal.returns
returns c =
    let numbers : c.items.out ≡ item_numbers (items_view c.args.items.now) = all_put c.items.out _ c.items.i c.args.items.now (c.items.invariant.eight ∙ sym c.requires.eight) (omega (arith, c.items-test.false)) c.items.invariant.same in
    record {
      numbers = numbers;
      fits = ap (are_numbers_in_range 1 4096) numbers ∙ numbers_within 1 4096 (items_view c.args.items.now) c.requires.between;
    }
