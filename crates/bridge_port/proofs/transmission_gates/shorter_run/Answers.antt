use Rattle.std.proofs.Common.{rules}
use Rattle.bridge_port.proofs.transmission_gates.shorter_run.Goals as goal

pub returns-in-Never-default : goal.returns-in-Never-default
returns-in-Never-default c = search rules

pub returns-in-For-Never : goal.returns-in-For-Never
returns-in-For-Never c = search rules

pub returns-in-For-For : goal.returns-in-For-For
returns-in-For-For c = search rules
