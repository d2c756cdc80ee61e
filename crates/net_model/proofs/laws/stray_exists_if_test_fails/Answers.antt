use Rattle.net_model.proofs.Straying.{found_exactly}
use Rattle.net_model.proofs.laws.stray_exists_if_test_fails.Goals as goal

pub returns : goal.returns
returns g c = found_exactly
