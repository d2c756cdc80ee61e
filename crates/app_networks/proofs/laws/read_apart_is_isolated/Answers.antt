use Rattle.app_networks.proofs.ApartRuns.{read_alone, read_equally}
use Rattle.app_networks.proofs.laws.read_apart_is_isolated.Goals as goal

pub returns-clause-alone : goal.returns-clause-alone
returns-clause-alone g c = λ p ports commands texts contents olds news o group n f v ran plan good apart found. read_alone p ports contents group n f plan good apart commands texts olds news o ran v found

pub returns-clause-equal : goal.returns-clause-equal
returns-clause-equal g c = λ p ports commands others texts more contents olds news starts ends o q group n f u v a b plan good apart same found there. read_equally p ports contents group n f plan good apart commands others texts more olds news starts ends o q a b u v same found there
