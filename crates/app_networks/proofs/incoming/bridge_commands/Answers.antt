use Rattle.std.proofs.Common.{subst}
use Rattle.bridge_config.specs.Document.{text_commands}
use Rattle.bridge_config.specs.Model.{Plan}
use Rattle.bridge_schema.specs.Readers.{IsReadFault}
use Rattle.app_networks.proofs.Ended.{bridge_commands}
use Rattle.app_networks.proofs.incoming.bridge_commands.Goals as goal

pub returns-in-Err-clause-ends : goal.returns-in-Err-clause-ends
returns-in-Err-clause-ends c = λ folder.
    bridge_commands c.args.accepted.now c.args.name.now folder c.args.text.now c.in-Err.fault c.bridge_commands_fault.result
    (subst (λ (p : Plan _). IsReadFault c.in-Err.fault (text_commands p c.args.text.now)) c.plan.ensures.plan c.in-Err.ensures.reads) c.bridge_commands_fault.ensures
