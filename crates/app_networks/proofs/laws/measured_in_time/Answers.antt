use Rattle.app_networks.proofs.Measured.{in_time_by_capacity}
use Rattle.app_networks.proofs.laws.measured_in_time.Goals as goal

pub returns : goal.returns
returns g c = λ n commands captures o stream links hops most r legs i h d network run told within there listed over.
    in_time_by_capacity n commands captures o network run stream links hops most told within r legs i h d there listed over
