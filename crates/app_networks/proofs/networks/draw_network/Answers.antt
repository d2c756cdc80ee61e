use Rattle.std.proofs.Common.{inl}
use Rattle.app_networks.proofs.networks.draw_network.Goals as goal

pub returns-in-Err-clause-fails : goal.returns-in-Err-clause-fails
returns-in-Err-clause-fails g c = inl c.in-Err.ensures.err
