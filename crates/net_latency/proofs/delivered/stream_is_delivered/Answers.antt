use Rattle.net_latency.proofs.TalkerDelivered.{delivered}
use Rattle.net_latency.proofs.delivered.stream_is_delivered.Goals as goal

pub returns : goal.returns
returns g c = λ n hops queues t r first commands captures o run a q ports accepted known all commanded traffic begins keeps is pass frame way. delivered n hops queues t r first commands captures o run a q ports accepted known all commanded traffic begins keeps is pass frame way
