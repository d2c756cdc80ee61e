use Rattle.app_commands.proofs.Runs.{ends_wire}
use Rattle.app_commands.proofs.jobs.wire_job.Goals as goal

pub returns-in-Err-clause-err : goal.returns-in-Err-clause-err
returns-in-Err-clause-err g c = λ input told.
    ends_wire c.args.speed c.args.room input (g.W.Write.contents c.args.writer) g.W.Write.contents c.in-Err.halted.writer c.in-Err.halted.fault (c.in-Err.ensures.err input told) c.in-Err.ensures.lost c.in-Err.ensures.one
