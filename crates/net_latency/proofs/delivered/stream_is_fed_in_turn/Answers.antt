use Rattle.net_latency.proofs.FedInTurn.{fed_in_turn}
use Rattle.net_latency.proofs.delivered.stream_is_fed_in_turn.Goals as goal

pub returns : goal.returns
returns g c = λ n hops queues first commands captures o run leg more accepted known all commanded begins once tree way of. fed_in_turn n hops queues first commands captures o accepted known all commanded begins once tree run leg more way of
