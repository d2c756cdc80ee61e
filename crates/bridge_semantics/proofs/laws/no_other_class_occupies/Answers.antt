use Rattle.bridge_semantics.proofs.Facts.{class_alone}
use Rattle.bridge_semantics.proofs.laws.no_other_class_occupies.Goals as goal

pub returns : goal.returns
returns g c = class_alone
