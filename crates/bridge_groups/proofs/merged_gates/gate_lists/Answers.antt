use Rattle.bridge_groups.proofs.MergedGates.{lists_found}
use Rattle.bridge_groups.proofs.merged_gates.gate_lists.Goals as goal

pub returns : goal.returns
returns g c = lists_found c.args.plan.now c.args.sharers.now c.args.sharers.now c.loop-sharer.sharer-index c.loop-sharer.lists.items c.loop-sharer-test.false c.loop-sharer.invariant
