use Rattle.std.proofs.Common.{◌∙◌}
use Rattle.std.specs.Prelude.{nat_eq}
use Rattle.indexmap.proofs.CallerLemmas.{insert_entry-new}
use Rattle.bridge_filter.proofs.make_instances.insert_instance.Goals as goal

pub returns-in-Ok-clause-updates : goal.returns-in-Ok-clause-updates
returns-in-Ok-clause-updates g c = c.in-Ok.ensures.updates.0

pub returns-in-Ok-clause-entries : goal.returns-in-Ok-clause-entries
returns-in-Ok-clause-entries g c = λ absent. c.in-Ok.ensures.entries ∙ insert_entry-new nat_eq c.args.made.now c.args.number c.args.thing absent
