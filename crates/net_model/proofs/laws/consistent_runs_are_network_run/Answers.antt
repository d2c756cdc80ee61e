use Rattle.net_model.proofs.Settling.{settled_is_run}
use Rattle.net_model.proofs.laws.consistent_runs_are_network_run.Goals as goal

pub returns : goal.returns
returns g c = settled_is_run
