use Rattle.bridge_meter.proofs.Stands.{covered}
use Rattle.bridge_meter.proofs.bounds_are_covered.Goals as goal

pub returns : goal.returns
returns c = λ plan events order. covered plan events order
