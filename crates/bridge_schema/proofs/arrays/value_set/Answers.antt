use Rattle.std.proofs.Common.{◌≡◌, ◌+◌, get_or, drop, arith, sym, ◌∙◌}
use Rattle.toml.specs.View.{view, items_view}
use Rattle.bridge_schema.proofs.Sets.{Front, front_at, set_at, more_fits}
use Rattle.bridge_schema.proofs.arrays.value_set.Goals as goal

pub items-preserved : goal.items-preserved
items-preserved c =
    let i = c.items.item-index in
    let v = c.item-item.result in
    let vs = c.args.items.now in
    let at : get_or vs i v ≡ v = sym c.item-item.is in
    let first : Front c.args.low c.args.high (view v) (items_view (drop (i + 1) vs)) = front_at c.args.low c.args.high i vs v c.items-test.true at c.items.invariant.rest in
    record {
      rest = first.rest;
      same = rw (c.with_bit-bits.ensures.bits, c.value_number-number.ensures) (sym (set_at c.args.low c.items.bits i vs v c.items-test.true at) ∙ c.items.invariant.same);
      fits = rw (c.with_bit-bits.ensures.bits, c.value_number-number.ensures) (more_fits _ _ _ c.items.invariant.fits (omega (arith, first.above, first.below, c.requires.order)));
    }
