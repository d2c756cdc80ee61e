use Rattle.app_failure.proofs.WithCommands.{check_ends}
use Rattle.app_failure.proofs.commanding.read_commands_and_check.Goals as goal

pub returns-in-Err-check_isolation-clause-err : goal.returns-in-Err-check_isolation-clause-err
returns-in-Err-check_isolation-clause-err g c = λ text told.
    check_ends c.args.plan _ text c.in-Ok.commands.items c.in-Err-check_isolation.fault (c.in-Ok.ensures.ok text told) c.in-Err-check_isolation.ensures.err

pub returns-in-Err-check_isolation-clause-only : goal.returns-in-Err-check_isolation-clause-only
returns-in-Err-check_isolation-clause-only g c =
    let some = c.in-Ok.ensures.some in
    (some.0, check_ends c.args.plan _ some.0 c.in-Ok.commands.items c.in-Err-check_isolation.fault some.1 c.in-Err-check_isolation.ensures.err)
