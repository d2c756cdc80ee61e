use Rattle.std.proofs.Common.{rules}
use Rattle.app_commands.proofs.job.write_run_picture.Goals as goal

pub returns-clause-lost : goal.returns-clause-lost
returns-clause-lost g c =
    (c.args.outcome.now, (c.in-Ok.ensures, (c.in-Ok-lost_if.ensures, search rules)))
