use Rattle.std.proofs.Common.{◌∙◌, ap, sym}
use Rattle.bridge_check.specs.ReachTables.{has_queue}
use Rattle.bridge_check.proofs.Told.{in_reach, unreached}
use Rattle.bridge_check.proofs.reach.can_wait.Goals as goal

pub returns-in-Some : goal.returns-in-Some
returns-in-Some g c =
    let port = c.in-Some.found.now in
    c.has_queue.ensures
    ∙ ap (λ r. has_queue r c.args.port port.classes c.args.class) c.filter_reach.ensures
    ∙ in_reach c.args.plan.now c.args.filter.now c.args.port c.args.class port c.requires.from c.requires.to (sym c.in-Some.ensures.port)

pub returns-in-None : goal.returns-in-None
returns-in-None g c = sym (unreached c.args.plan.now c.args.filter.now c.args.port c.args.class (sym c.in-None.ensures.port))
