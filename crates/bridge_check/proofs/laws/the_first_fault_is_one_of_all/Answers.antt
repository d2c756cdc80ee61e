use Rattle.bridge_check.proofs.Among as among
use Rattle.bridge_check.proofs.laws.the_first_fault_is_one_of_all.Goals as goal

pub returns : goal.returns
returns g c = record { one = among.one; none = among.none }
