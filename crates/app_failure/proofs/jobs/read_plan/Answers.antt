use Rattle.std.proofs.Common.{◌∙◌}
use Rattle.app_failure.proofs.Looks.{plan_fails, plan_told}
use Rattle.app_failure.proofs.jobs.read_plan.Goals as goal

pub returns-in-Ok-plan_of-clause-ok : goal.returns-in-Ok-plan_of-clause-ok
returns-in-Ok-plan_of-clause-ok g c = λ input told.
    plan_told c.deref.result.now input c.in-Ok-plan_of.plan (c.deref.ensures.value ∙ c.in-Ok.ensures.octets input told) c.in-Ok-plan_of.ensures.reads

pub returns-in-Ok-clause-err : goal.returns-in-Ok-clause-err
returns-in-Ok-clause-err g c = λ input told.
    plan_fails g.row.A.Denot c.deref.result.now input c.in-Err-plan_of.fault (c.deref.ensures.value ∙ c.in-Ok.ensures.octets input told) c.in-Err-plan_of.ensures.reads
