use Rattle.bridge_groups.proofs.Costs.{by_meter_at, charged}
use Rattle.bridge_groups.proofs.laws.group_leaves_in_time_by_cost.Goals as goal

pub returns-clause-meter : goal.returns-clause-meter
returns-clause-meter g c = by_meter_at

pub returns-clause-done : goal.returns-clause-done
returns-clause-done g c = λ p group sharers q k sdu fit b s out own es moments lists x plan is at reach share limits run whole order one wide within i class started. charged p group sharers q k sdu out plan is at reach share fit own limits es moments lists b s x run whole order one wide within i class started
