use Rattle.bridge_gate.proofs.ScheduleLaws.{kept}
use Rattle.bridge_gate.proofs.stream_gate.StreamGate.find_turn.Goals as goal

pub invariant_of-self : goal.invariant_of-self
invariant_of-self g c = record {
  priorities = c.self.invariant.priorities;
  few = c.self.invariant.few;
  kept = kept _ c.args.t _ c.turn-turn.ensures.lawful c.turn-turn.ensures.turn;
}
