use Rattle.std.proofs.Common.{rules}
use Rattle.bridge_cycle.proofs.changing_list.JoinedTimeline.turn.Goals as goal

pub returns-then-t-self-clause-turn : goal.returns-then-t-self-clause-turn
returns-then-t-self-clause-turn g c = search rules
