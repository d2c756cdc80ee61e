use Rattle.bridge_groups.proofs.FitCosts.{paid_long}
use Rattle.bridge_groups.proofs.queue_laws.long_frame_cost_suffices.Goals as goal

pub returns : goal.returns
returns c = λ opens occ least on one some wide low short. paid_long opens occ on one some wide least low short
