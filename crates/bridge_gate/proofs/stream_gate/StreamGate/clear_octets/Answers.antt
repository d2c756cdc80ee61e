use Rattle.bridge_gate.proofs.Asks.{stands_octets}
use Rattle.bridge_gate.proofs.stream_gate.StreamGate.clear_octets.Goals as goal

pub returns-clause-stands : goal.returns-clause-stands
returns-clause-stands g c = λ r es st. rw (← c.self.view_is) at (stands_octets r c.args.self.now es st)
