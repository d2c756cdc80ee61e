use Rattle.net_latency.proofs.Timed.{way_in_time}
use Rattle.net_latency.proofs.laws.route_in_time.Goals as goal

pub returns : goal.returns
returns g c = λ n commands captures o run leg more network way. way_in_time n commands captures o network run leg more way
