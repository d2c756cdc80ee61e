use Rattle.app_failure.proofs.Looks.{all_accepted, all_ended, plan_ends}
use Rattle.app_failure.proofs.jobs.read_accepted_plan.Goals as goal

pub returns-clause-ok : goal.returns-clause-ok
returns-clause-ok g c = λ input told. all_accepted input c.in-Ok.plan c.check_isolation.result (c.in-Ok.ensures.ok input told) c.check_isolation.ensures.ok

pub returns-clause-err : goal.returns-clause-err
returns-clause-err g c = λ input told. all_ended c.args.path.now input c.in-Ok.plan c.check_isolation.result (c.in-Ok.ensures.ok input told) c.check_isolation.ensures.err

pub returns-in-Err-clause-err : goal.returns-in-Err-clause-err
returns-in-Err-clause-err g c = λ input told. plan_ends g.row.A.Denot c.args.path.now input c.in-Err.fault (c.in-Err.ensures.err input told)
