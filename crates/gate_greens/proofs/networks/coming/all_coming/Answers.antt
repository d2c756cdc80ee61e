use Rattle.gate_greens.proofs.Came.{are_incoming}
use Rattle.gate_greens.proofs.networks.coming.all_coming.Goals as goal

pub returns : goal.returns
returns c = are_incoming c.args.plans.now c.in_ok-all.all.items c.in_ok-all.ensures
