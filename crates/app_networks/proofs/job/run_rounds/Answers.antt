use Rattle.std.proofs.Common.{inl, inr, refl}
use Rattle.app_networks.proofs.job.run_rounds.Goals as goal

pub returns-clause-err : goal.returns-clause-err
returns-clause-err g c = inl (inr (inr (_, inr (_, c.in-Err.ensures.refused))))

pub returns-in_default-clause-err : goal.returns-in_default-clause-err
returns-in_default-clause-err g c = inl (inl refl)
