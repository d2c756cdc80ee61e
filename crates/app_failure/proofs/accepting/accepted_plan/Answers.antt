use Rattle.app_failure.proofs.Looks.{all_accepted, all_refused}
use Rattle.app_failure.proofs.accepting.accepted_plan.Goals as goal

pub returns-clause-ok : goal.returns-clause-ok
returns-clause-ok g c = all_accepted c.args.text.now c.in-Ok.plan c.check_isolation.result c.in-Ok.ensures.reads c.check_isolation.ensures.ok

pub returns-clause-err : goal.returns-clause-err
returns-clause-err g c = all_refused c.args.text.now c.in-Ok.plan c.check_isolation.result c.in-Ok.ensures.reads c.check_isolation.ensures.err
