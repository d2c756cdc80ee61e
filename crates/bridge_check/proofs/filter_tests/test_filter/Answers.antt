use Rattle.std.proofs.Common.{◌∙◌}
use Rattle.bridge_check.specs.Faults.{queue_group}
use Rattle.bridge_check.proofs.Told.{tests_of_group}
use Rattle.bridge_check.proofs.filter_tests.test_filter.Goals as goal

pub returns : goal.returns
returns g c = c.run_tests.ensures ∙ tests_of_group c.args.plan.now (queue_group c.args.filter) c.args.number c.args.filter
