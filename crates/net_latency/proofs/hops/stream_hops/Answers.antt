use Rattle.net_latency.specs.Streams.{stream_hop_value}
use Rattle.net_latency.proofs.Lined.{all_ones, one_more}
use Rattle.net_latency.proofs.hops.stream_hops.Goals as goal

pub loop-row-preserved : goal.loop-row-preserved
loop-row-preserved g c = one_more stream_hop_value c.args.rows.now c.loop-row.row-index _ c.loop-row.hops.items c.push.new.self.items c.loop-row-test.true c.loop-row.invariant c.in-Ok.ensures.items

pub returns : goal.returns
returns g c = all_ones stream_hop_value c.args.rows.now c.loop-row.row-index c.loop-row.hops.items c.loop-row-test.false c.loop-row.invariant
