use Rattle.net_latency.proofs.ReachedQueues.{all_reached}
use Rattle.net_latency.proofs.delivered.stream_queues_are_reachable.Goals as goal

pub returns : goal.returns
returns g c = λ plans bounds hops are. all_reached plans bounds hops are
