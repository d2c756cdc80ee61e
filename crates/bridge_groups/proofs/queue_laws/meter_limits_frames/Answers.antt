use Rattle.bridge_groups.proofs.MeterAllowance.{lets_upto}
use Rattle.bridge_groups.proofs.queue_laws.meter_limits_frames.Goals as goal

pub returns : goal.returns
returns c = lets_upto
