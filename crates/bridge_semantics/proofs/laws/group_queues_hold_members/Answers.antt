use Rattle.bridge_semantics.proofs.Grouped.{member_in_reach, reach_has_members}
use Rattle.bridge_semantics.proofs.laws.group_queues_hold_members.Goals as goal

pub returns-clause-reach : goal.returns-clause-reach
returns-clause-reach g c = λ p group n f es moments lists q out x plan good i run at j e. member_in_reach p group plan good es moments lists run n f i q out x at j e

pub returns-clause-members : goal.returns-clause-members
returns-clause-members g c = λ p group es moments lists q out x plan good run at j r. reach_has_members p group plan good es moments lists run q out x at j r
