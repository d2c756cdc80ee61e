use Rattle.std.proofs.Common.{◌∙◌, ap}
use Rattle.bridge_check.specs.ReachTables.{has_queue}
use Rattle.bridge_check.proofs.Told.{in_reach}
use Rattle.bridge_check.proofs.reach.can_wait_in_reach.Goals as goal

pub returns : goal.returns
returns g c =
    let port = c.args.port.now in
    c.has_queue.ensures
    ∙ ap (λ r. has_queue r port.number port.classes c.args.class) c.requires.reach
    ∙ in_reach c.args.plan.now c.args.filter.now port.number c.args.class port c.requires.from c.requires.to c.requires.port
