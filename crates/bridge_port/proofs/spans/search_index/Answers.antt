use Rattle.std.proofs.Common.{◌≡◌, ◌<◌, ◌+◌, ◌-◌, ◌/◌, ℕ, length, arith, sym, ◌∙◌}
use Rattle.bridge_port.specs.Spans.{span_end}
use Rattle.bridge_port.proofs.Fitting.{end_is}
use Rattle.bridge_port.proofs.spans.search_index.Goals as goal

pub loop-low-preserved-then-from-t : goal.loop-low-preserved-then-from-t
loop-low-preserved-then-from-t c =
    let low = c.loop-low.low in
    let high = c.loop-low.high in
    let middle : ℕ = low + (high - low) / 2 in
    let less = c.loop-low-test.true in
    let inside = c.loop-low.invariant.within in
    let below : middle < length c.args.spans.now = omega (arith, less, inside) in
    let ends : span_end c.args.spans.now middle ≡ c.from.result = end_is c.args.spans.now middle _ below ∙ sym c.from.ensures in
    let before = c.if-from-t.true in
    let same : middle + 1 - 1 ≡ middle = omega arith in
    record {
      ordered = omega (arith, less);
      within = inside;
      behind = λ some. rw same (rw ends before);
    }
