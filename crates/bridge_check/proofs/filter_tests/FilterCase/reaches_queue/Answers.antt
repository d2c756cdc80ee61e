use Rattle.std.proofs.Common.{◌∙◌, ap}
use Rattle.bridge_check.specs.ReachTables.{has_queue}
use Rattle.bridge_check.proofs.Told.{in_reach}
use Rattle.bridge_check.proofs.filter_tests.FilterCase.reaches_queue.Goals as goal

pub returns : goal.returns
returns g c =
    c.has_queue.ensures
    ∙ ap (λ r. has_queue r c.args.q c.args.port.now.classes c.args.class) c.requires.case.reach
    ∙ in_reach c.args.self.now.plan.now c.args.self.now.filter c.args.q c.args.class c.args.port.now c.requires.from c.requires.to c.requires.port
