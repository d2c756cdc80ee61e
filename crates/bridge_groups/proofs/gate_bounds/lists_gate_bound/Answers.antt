use Rattle.bridge_groups.proofs.GateRuns.{one_list_bound}
use Rattle.bridge_groups.proofs.gate_bounds.lists_gate_bound.Goals as goal

pub returns-in-Cyclic : goal.returns-in-Cyclic
returns-in-Cyclic g c = one_list_bound c.args.lists.now c.in-Cyclic.list c.args.gate.now c.args.class c.args.occ c.args.least c.args.fewest c.gate_delay_bound.result c.in-Cyclic.is c.gate_delay_bound.ensures
