use Rattle.std.proofs.Common.{◌/◌}
use Rattle.bridge_frame.specs.Link.{transmission_time}
use Rattle.bridge_groups.specs.Curves.{HasNoRunts, curve_sum}
use Rattle.bridge_groups.proofs.Limits.{limited_keep}
use Rattle.bridge_groups.proofs.Sharing as proof
use Rattle.bridge_groups.proofs.laws.group_leaves_in_time_by_curves.Goals as goal

pub returns-clause-done : goal.returns-clause-done
returns-clause-done g c = λ p group sharers own q k sdu b s out es moments lists x plan is at reach share limits run whole order long within i class started. proof.done_in_time p group sharers q k sdu out plan is at reach share HasNoRunts (λ a ds fine. fine.1) (λ d n ds fine. fine) (curve_sum own sharers) (λ w. curve_sum own sharers w / transmission_time 60 out.speed) (limited_keep p out k sharers own limits (proof.offers_of p group sharers q k sdu out plan is at reach share)) es moments lists run whole order long b s x within i class started

pub returns-clause-room : goal.returns-clause-room
returns-clause-room g c = λ p group sharers own q k sdu out es moments lists x plan is at reach share limits run whole order long room i class full. proof.never_refused p group sharers q k sdu out plan is at reach share HasNoRunts (λ a ds fine. fine.1) (λ d n ds fine. fine) (curve_sum own sharers) (λ w. curve_sum own sharers w / transmission_time 60 out.speed) (limited_keep p out k sharers own limits (proof.offers_of p group sharers q k sdu out plan is at reach share)) es moments lists run whole order long x room i class full
