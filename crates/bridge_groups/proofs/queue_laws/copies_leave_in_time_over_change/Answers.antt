use Rattle.bridge_groups.proofs.Change.{exchanged}
use Rattle.bridge_groups.proofs.queue_laws.copies_leave_in_time_over_change.Goals as goal

pub returns : goal.returns
returns g k = λ r curve c occ least b1 b2 at s old new x older before behind some first then_on rises solo order between keeps started. exchanged r curve c occ least b1 b2 at old new before behind some first then_on rises s x older solo order between keeps started
