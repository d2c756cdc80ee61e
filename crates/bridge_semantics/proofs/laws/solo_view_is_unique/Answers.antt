use Rattle.bridge_semantics.proofs.Views.{told_once}
use Rattle.bridge_semantics.proofs.laws.solo_view_is_unique.Goals as goal

pub returns : goal.returns
returns g c = told_once
