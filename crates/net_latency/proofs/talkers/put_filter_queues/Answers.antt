use Rattle.net_latency.proofs.Queued.{next_among}
use Rattle.net_latency.proofs.talkers.put_filter_queues.Goals as goal

pub loop-row-preserved : goal.loop-row-preserved
loop-row-preserved g c = record {
  more = next_among c.args.rows.now c.args.hop c.loop-row.row-index _ _ c.loop-row.queues.items _ c.loop-row-test.true c.loop-row.invariant.more c.in-Ok.ensures.more;
  are_queues = c.in-Ok.ensures.queues;
}
