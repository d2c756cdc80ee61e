use Rattle.std.proofs.Common.{refl}
use Rattle.app_commands.proofs.check.check_text.Goals as goal

pub returns-in-Err-clause-err : goal.returns-in-Err-clause-err
returns-in-Err-clause-err c = c.in-Err.ensures.err c.args.text.now refl

pub returns-in-Ok-checked-clause-ok : goal.returns-in-Ok-checked-clause-ok
returns-in-Ok-checked-clause-ok c = (c.in-Ok.accepted, c.in-Ok.ensures.ok c.args.text.now refl, c.in-Ok-checked.ensures.line)
