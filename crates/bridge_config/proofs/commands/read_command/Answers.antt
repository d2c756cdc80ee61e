use Rattle.bridge_config.specs.Commands as spec
use Rattle.bridge_config.proofs.Taken.{begun, taken, told}
use Rattle.bridge_config.proofs.commands.read_command.Goals as goal

pub returns-clause-reads : goal.returns-clause-reads
unfolding spec.read_command
returns-clause-reads g c =
    let read = begun _ _ c.begin-first.ensures c.has_command_keys.ensures in
    let moment = rw c.last_time.ensures at c.read_required-moment.ensures.takes in
    let read = taken _ moment read in
    let read = taken _ c.read_required-clear.ensures.takes read in
    told c.finish.ensures (taken _ c.read_required-number.ensures.takes read)
