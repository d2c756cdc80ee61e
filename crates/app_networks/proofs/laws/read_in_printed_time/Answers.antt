use Rattle.app_networks.proofs.PrintedBounds.{in_least_bound, in_padded_bound}
use Rattle.app_networks.proofs.laws.read_in_printed_time.Goals as goal

pub returns-clause-bound : goal.returns-clause-bound
returns-clause-bound g c = λ p ports commands texts contents olds news o n q s b out x ran plan good at listed flow started is. in_least_bound p ports commands texts contents olds news o q s out x ran plan good at listed started n b flow is

pub returns-clause-padded : goal.returns-clause-padded
returns-clause-padded g c = λ p ports commands texts contents olds news o n q s a b out x ran plan good at listed started long is. in_padded_bound p ports commands texts contents olds news o q s out x ran plan good at listed started n a b long is
