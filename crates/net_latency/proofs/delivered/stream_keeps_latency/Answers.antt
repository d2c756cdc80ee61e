use Rattle.net_latency.proofs.StreamKept.{kept}
use Rattle.net_latency.proofs.delivered.stream_keeps_latency.Goals as goal

pub returns : goal.returns
returns g c = λ n hops queues t r commands captures o run leg more accepted known all commanded traffic is begins way of keeps. kept n hops queues t r commands captures o run leg more accepted known all commanded traffic is begins way of keeps
