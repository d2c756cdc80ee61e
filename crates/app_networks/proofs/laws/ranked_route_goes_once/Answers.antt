use Rattle.app_networks.proofs.Measured.{goes_once}
use Rattle.app_networks.proofs.laws.ranked_route_goes_once.Goals as goal

pub returns : goal.returns
returns g c = λ links hops rank r legs i k onward over. goes_once links hops rank onward r legs i k over
