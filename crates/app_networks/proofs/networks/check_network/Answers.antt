use Rattle.std.proofs.Common.{inl, refl}
use Rattle.app_networks.proofs.networks.check_network.Goals as goal

pub returns-in-Err-output_of_check-clause-fails : goal.returns-in-Err-output_of_check-clause-fails
returns-in-Err-output_of_check-clause-fails g c = inl refl
