use Rattle.app_cli.proofs.Asked.{no_wire, of_wire, no_check, of_check, no_run, of_run, no_picture, of_picture, no_bounds, of_bounds, no_net, of_net}
use Rattle.app_cli.proofs.job.job_by_command.Goals as goal

pub returns-in-wire-clause-ok : goal.returns-in-wire-clause-ok
returns-in-wire-clause-ok c = of_wire _ _ _ _ c.requires.taken c.requires.named c.in-wire.is c.wire_job.ensures.ok

pub returns-in-wire-clause-room : goal.returns-in-wire-clause-room
returns-in-wire-clause-room c = c.wire_job.ensures.room

pub returns-in-wire-clause-words : goal.returns-in-wire-clause-words
returns-in-wire-clause-words c = λ is. no_wire _ _ _ c.requires.some c.requires.named c.in-wire.is (c.wire_job.ensures.words is)

pub returns-in-check-clause-ok : goal.returns-in-check-clause-ok
returns-in-check-clause-ok c = of_check _ _ _ _ c.requires.taken c.requires.named c.in-check.is c.check_job.ensures.ok

pub returns-in-check-clause-room : goal.returns-in-check-clause-room
returns-in-check-clause-room c = c.check_job.ensures.room

pub returns-in-check-clause-words : goal.returns-in-check-clause-words
returns-in-check-clause-words c = λ is. no_check _ _ _ c.requires.some c.requires.named c.in-check.is (c.check_job.ensures.words is)

pub returns-in-run-clause-ok : goal.returns-in-run-clause-ok
returns-in-run-clause-ok c = of_run _ _ _ _ c.requires.taken c.requires.named c.in-run.is c.run_job.ensures.ok

pub returns-in-run-clause-room : goal.returns-in-run-clause-room
returns-in-run-clause-room c = c.run_job.ensures.room

pub returns-in-run-clause-words : goal.returns-in-run-clause-words
returns-in-run-clause-words c = λ is. no_run _ _ _ c.requires.some c.requires.named c.in-run.is (c.run_job.ensures.words is)

pub returns-in-picture-clause-ok : goal.returns-in-picture-clause-ok
returns-in-picture-clause-ok c = of_picture _ _ _ _ c.requires.taken c.requires.named c.in-picture.is c.picture_job.ensures.ok

pub returns-in-picture-clause-room : goal.returns-in-picture-clause-room
returns-in-picture-clause-room c = c.picture_job.ensures.room

pub returns-in-picture-clause-words : goal.returns-in-picture-clause-words
returns-in-picture-clause-words c = λ is. no_picture _ _ _ c.requires.some c.requires.named c.in-picture.is (c.picture_job.ensures.words is)

pub returns-in-bounds-clause-ok : goal.returns-in-bounds-clause-ok
returns-in-bounds-clause-ok c = of_bounds _ _ _ _ c.requires.taken c.requires.named c.in-bounds.is c.bounds_job.ensures.ok

pub returns-in-bounds-clause-room : goal.returns-in-bounds-clause-room
returns-in-bounds-clause-room c = c.bounds_job.ensures.room

pub returns-in-bounds-clause-words : goal.returns-in-bounds-clause-words
returns-in-bounds-clause-words c = λ is. no_bounds _ _ _ c.requires.some c.requires.named c.in-bounds.is (c.bounds_job.ensures.words is)

pub returns-in-net-clause-ok : goal.returns-in-net-clause-ok
returns-in-net-clause-ok c = of_net _ _ _ _ c.requires.taken c.requires.named c.in-net.is c.network_job.ensures.ok

pub returns-in-net-clause-room : goal.returns-in-net-clause-room
returns-in-net-clause-room c = c.network_job.ensures.room

pub returns-in-net-clause-words : goal.returns-in-net-clause-words
returns-in-net-clause-words c = λ is. no_net _ _ _ c.requires.some c.requires.named c.in-net.is (c.network_job.ensures.checks is) (c.network_job.ensures.runs is)
