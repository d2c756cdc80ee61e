use Rattle.std.proofs.Common.{arith}
use Rattle.net_latency.proofs.Gathered.{next_row}
use Rattle.net_latency.proofs.timings.queue_timings.Goals as goal

pub loop-row-preserved : goal.loop-row-preserved
loop-row-preserved g c =
    let at = c.loop-row.invariant.index in
    record {
      index = omega (arith, at);
      timings = next_row c.args.accepted.now c.in-Ok.bounds.items c.in-Ok-plan_shared_queues.shared.items c.deref.result.now c.deref-in-loop-row.result.now c.args.rows.now c.loop-row.row-index c.loop-row.index c.filter.result _ c.loop-row.made.items c.in-Ok-talker_row_timings.more.items c.deref-in-loop-row-2.result.now c.put_row.new.made.items c.loop-row-test.true at c.deref.ensures.value c.deref-in-loop-row.ensures.value c.loop-row.invariant.timings c.in-Ok-talker_row_timings.ensures c.deref-in-loop-row-2.ensures.value c.filter.ensures c.in-Ok-put_row.ensures;
    }
