use Rattle.std.proofs.Common.{rules}
use Rattle.bridge_gate.proofs.schedule.Schedule.turn.Goals as goal

pub returns-in-Fixed-clause-turn : goal.returns-in-Fixed-clause-turn
returns-in-Fixed-clause-turn c = search rules
