use Rattle.std.proofs.Common.{◌∙◌, ap}
use Rattle.bridge_check.specs.Faults.{queue_group}
use Rattle.bridge_check.specs.ReachTables.{least_outsider, other_or_outsider}
use Rattle.bridge_check.proofs.Told.{others_or_outsiders}
use Rattle.bridge_check.proofs.filter_tests.FilterCase.other_filter_in_queue.Goals as goal

pub returns : goal.returns
returns g c =
    let p = c.args.self.now.plan.now in
    let group = queue_group c.args.self.now.filter in
    c.least_outsider.ensures
    ∙ ap (λ own. least_outsider c.args.self.now.reaches.now own c.args.self.now.number c.args.q c.args.port.now.classes c.args.class) c.queue_group-group.ensures
    ∙ ap (λ rs. least_outsider rs group c.args.self.now.number c.args.q c.args.port.now.classes c.args.class) c.requires.case.reaches
    ∙ others_or_outsiders p group c.args.self.now.number c.args.q c.args.class c.args.port.now c.requires.from c.requires.to c.requires.port
