use Rattle.bridge_groups.proofs.GateOpenings.{shut_on}
use Rattle.bridge_groups.proofs.apart_gates.is_closed.Goals as goal

pub loop-interval-preserved : goal.loop-interval-preserved
loop-interval-preserved g c = shut_on c.args.list.now c.requires.lawful c.args.from c.loop-interval.seen c.turn-turn.result c.turn-turn.ensures.turn c.if-turn.false c.loop-interval.invariant
