use Rattle.std.proofs.Common.{◌≡◌, ◌<◌, ◌+◌, ◌-◌, length, arith, sym, ◌∙◌}
use Rattle.bridge_port.specs.Spans.{span_end}
use Rattle.bridge_port.proofs.Fitting.{end_is}
use Rattle.bridge_port.proofs.spans.walk_spans.Goals as goal

pub loop-place-preserved : goal.loop-place-preserved
loop-place-preserved c =
    let place = c.loop-place.place in
    let below : place < length c.args.spans.now = c.loop-place-test.true in
    let ends : span_end c.args.spans.now place ≡ c.from.result = end_is c.args.spans.now place _ below ∙ sym c.from.ensures in
    let before = c.if-from-t.true in
    let same : place + 1 - 1 ≡ place = omega arith in
    record {
      within = omega (arith, below);
      behind = λ some. rw same (rw ends before);
    }
