use Rattle.bridge_port.proofs.Opening.{turn_kept}
use Rattle.bridge_port.proofs.transmission_gates.find_turn.Goals as goal

pub returns-clause-kept : goal.returns-clause-kept
returns-clause-kept g c = turn_kept c.args.list.now c.args.t c.turn.result c.requires.lawful c.turn.ensures.turn
