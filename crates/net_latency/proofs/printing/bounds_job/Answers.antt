use Rattle.net_latency.proofs.printing.bounds_job.Goals as goal

pub returns-in-Ok-told-clause-ok : goal.returns-in-Ok-told-clause-ok
returns-in-Ok-told-clause-ok g c = λ input told. (c.in-Ok.accepted, c.in-Ok.ensures.ok input told, c.in-Ok-told.ensures)
