use Rattle.std.proofs.Common.{◌∙◌}
use Rattle.net_model.proofs.Told.{all_once, rows_all}
use Rattle.net_model.proofs.forwarding_loop.find_forwarding_loops.Goals as goal

pub returns : goal.returns
returns g c = rows_all c.args.plans.now c.args.links.now c.deref.result.now c.group_loops.result (c.deref.ensures.value ∙ c.in_ok-groups.ensures) c.group_loops.ensures

pub group_loops-requires-clause-once : goal.group_loops-requires-clause-once
group_loops-requires-clause-once g c = all_once c.args.plans.now c.deref.result.now (c.deref.ensures.value ∙ c.in_ok-groups.ensures)
