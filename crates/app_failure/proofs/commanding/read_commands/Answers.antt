use Rattle.std.proofs.Common.{◌∙◌}
use Rattle.app_failure.proofs.WithCommands.{commands_fail, commands_told}
use Rattle.app_failure.proofs.commanding.read_commands.Goals as goal

pub returns-in-Ok-commands_of-clause-ok : goal.returns-in-Ok-commands_of-clause-ok
returns-in-Ok-commands_of-clause-ok g c = λ input told.
    commands_told c.args.plan.now c.deref.result.now input c.in-Ok-commands_of.commands.items (c.deref.ensures.value ∙ c.in-Ok.ensures.octets input told) c.in-Ok-commands_of.ensures.reads

pub returns-in-Ok-clause-err : goal.returns-in-Ok-clause-err
returns-in-Ok-clause-err g c = λ input told.
    commands_fail c.args.plan.now c.deref.result.now input c.in-Err-commands_of.fault (c.deref.ensures.value ∙ c.in-Ok.ensures.octets input told) c.in-Err-commands_of.ensures.reads
