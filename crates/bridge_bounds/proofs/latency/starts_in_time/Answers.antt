use Rattle.bridge_bounds.proofs.Paced.{starts_in_time}
use Rattle.bridge_bounds.proofs.latency.starts_in_time.Goals as goal

pub returns : goal.returns
returns g c = λ p n f es v q k occ wait out x alone at soon room conforms i. starts_in_time p out k occ wait es (alone.lists q k) (alone.solo.offers q k out at) (alone.solo.solo q k out at) soon room conforms x i
