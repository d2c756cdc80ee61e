use Rattle.net_model.proofs.Told.{told_next, told_none}
use Rattle.net_model.proofs.forwarding_loop.group_loops.Goals as goal

pub loop-group-init : goal.loop-group-init
loop-group-init g c = rw c.new-rows.ensures.items (told_none c.args.plans.now c.args.links.now)

pub loop-group-preserved : goal.loop-group-preserved
loop-group-preserved g c = told_next c.args.plans.now c.args.links.now c.args.groups.now c.loop-group.rows.items _ c.loop-group.group-index _ c.loop-group-test.true c.requires.once c.in_ok-add_group_loop.ensures c.loop-group.invariant
