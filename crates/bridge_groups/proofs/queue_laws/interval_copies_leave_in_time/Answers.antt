use Rattle.bridge_groups.proofs.Intervals.{in_time}
use Rattle.bridge_groups.proofs.queue_laws.interval_copies_leave_in_time.Goals as goal

pub returns : goal.returns
returns g c = λ r lets begin limit c occ least b s x older are solo order between work is started. in_time r lets begin limit c occ least b are is s x older solo order between work started
