use Rattle.bridge_check.proofs.Runs.{run_decides}
use Rattle.bridge_check.proofs.windows.can_fit_in_list.Goals as goal

pub returns : goal.returns
returns g c = run_decides c.args.list.now c.longest_run.result c.args.class c.args.occupied c.allows.result c.cycle.ensures.lawful c.longest_run.ensures.longest c.allows.ensures
