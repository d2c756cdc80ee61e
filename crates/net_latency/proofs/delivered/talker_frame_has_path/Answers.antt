use Rattle.net_latency.proofs.TalkerDelivered.{has_path}
use Rattle.net_latency.proofs.delivered.talker_frame_has_path.Goals as goal

pub returns : goal.returns
returns g c = λ n hops queues t r first commands captures o run a accepted known all commanded traffic begins keeps is pass frame compare. has_path n hops queues t r first commands captures o run a accepted known all commanded traffic begins keeps is pass frame compare
