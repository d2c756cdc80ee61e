use Rattle.std.proofs.Common.{inl, inr, refl}
use Rattle.app_networks.proofs.drawing.network_picture.Goals as goal

pub returns-clause-err : goal.returns-clause-err
returns-clause-err g c = inr (inr (_, inr (_, c.in-Err.ensures.refused)))

pub returns-in-Ok-clause-err : goal.returns-in-Ok-clause-err
returns-in-Ok-clause-err g c = inl refl
