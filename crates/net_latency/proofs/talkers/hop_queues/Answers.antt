use Rattle.std.proofs.Common.{[]}
use Rattle.net_latency.specs.Talkers.{queues_of_hop}
use Rattle.net_latency.proofs.Lined.{all_pieces, piece_more}
use Rattle.net_latency.proofs.talkers.hop_queues.Goals as goal

pub loop-hop-preserved : goal.loop-hop-preserved
loop-hop-preserved g c = record {
  same = piece_more (queues_of_hop c.args.bounds.now) [] c.args.hops.now c.loop-hop.hop-index _ c.loop-hop.queues.items c.put_queues.new.queues.items c.loop-hop-test.true c.loop-hop.invariant.same c.in-Ok.ensures.more;
  are_queues = c.in-Ok.ensures.queues;
}

pub returns-clause-same : goal.returns-clause-same
returns-clause-same g c = all_pieces (queues_of_hop c.args.bounds.now) [] c.args.hops.now c.loop-hop.hop-index c.loop-hop.queues.items c.loop-hop-test.false c.loop-hop.invariant.same
