use Rattle.net_latency.proofs.TalkerPort.{talker_keeps}
use Rattle.net_latency.proofs.delivered.talker_port_keeps_traffic.Goals as goal

pub returns : goal.returns
returns g c = λ n hops queues first t q commands captures o run accepted known all commanded begins once tree sent. talker_keeps n hops queues first commands captures o accepted known all commanded begins once tree run t q sent
