use Rattle.bridge_bounds.proofs.Passed as passed
use Rattle.bridge_bounds.proofs.periodic_laws.each_frame_passes.Goals as goal

pub returns : goal.returns
returns g c = passed.each_passes
