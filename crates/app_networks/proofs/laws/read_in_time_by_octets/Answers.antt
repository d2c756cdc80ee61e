use Rattle.bridge_semantics.specs.Merge.{input_events}
use Rattle.bridge_bounds.proofs.Whole.{in_tight_bound}
use Rattle.app_networks.proofs.Lengths.{are_within}
use Rattle.app_networks.proofs.laws.read_in_time_by_octets.Goals as goal

pub returns : goal.returns
returns g c = λ p ports commands texts contents olds news o n q s b out x ran plan acceptable at listed flow fate tight.
    in_tight_bound p n b (input_events ran.inputs) ran.ends.outcome.moments ran.ends.lists q s out x plan acceptable ran.ends.outcome.run ran.ends.outcome.whole
    (are_within p commands texts ran.frames ran.inputs ran.reads ran.others ran.merged) at listed flow fate tight
