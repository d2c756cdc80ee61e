use Rattle.std.proofs.Common.{rules}
use Rattle.bridge_capture.proofs.Records.{at_header, at_record, at_end}
use Rattle.bridge_capture.proofs.hex_texts.hex_lines.Goals as goal

pub loop-rest-init : goal.loop-rest-init
loop-rest-init g c =
    at_header _ c.split_at.result.0.now _ _ (rw (← c.min.ensures) c.split_at.ensures.front) (rw (← c.min.ensures) c.split_at.ensures.back) (rw c.in_ok-push_line.ensures (rw c.in_ok-text.ensures.bytes (search rules)))

pub loop-rest-preserved : goal.loop-rest-preserved
loop-rest-preserved g c =
    let step = c.split_at-in-loop-rest in
    at_record _ _ _ step.result.0.now _ _ c.record_len.result (search rules) c.record_len.ensures.whole (rw (← c.min-in-loop-rest.ensures) step.ensures.front) (rw (← c.min-in-loop-rest.ensures) step.ensures.back) c.in_ok-push_line-2.ensures c.loop-rest.invariant

pub returns : goal.returns
returns g c = at_end _ _ _ (search rules) c.loop-rest.invariant
