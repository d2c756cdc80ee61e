use Rattle.std.proofs.Common.{◌≡◌, ◌<◌, ◌≤◌, ℕ, ap, ◌∙◌}
use Rattle.bridge_cycle.proofs.Changes.{opens_after, opens_before}
use Rattle.bridge_port.specs.GateSchedule.{GateSchedule, list_opens, lists_open, opens}
use Rattle.bridge_groups.proofs.Sharing as proof
use Rattle.bridge_groups.proofs.laws.group_leaves_in_time_over_change.Goals as goal

pub returns : goal.returns
returns g c = λ p group sharers q k sdu b1 b2 s out j es moments lists x plan is at reach share metered run whole order exchanged some first then_on i class started.
    let before : (u : ℕ) → u < j.at → lists_open out.list k u ≡ list_opens j.old k u = λ u h. ap (λ (o : GateSchedule). opens o k u) exchanged ∙ opens_before j k u h in
    let behind : (u : ℕ) → j.at ≤ u → lists_open out.list k u ≡ list_opens j.new k u = λ u h. ap (λ (o : GateSchedule). opens o k u) exchanged ∙ opens_after j k u h in
    proof.done_over_change p group sharers q k sdu out plan is at reach share metered es moments lists run whole order b1 b2 j.at s (list_opens j.old k) (list_opens j.new k) x before behind some first then_on i class started
