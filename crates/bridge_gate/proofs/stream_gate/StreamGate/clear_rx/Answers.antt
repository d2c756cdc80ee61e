use Rattle.bridge_gate.proofs.Asks.{stands_rx}
use Rattle.bridge_gate.proofs.stream_gate.StreamGate.clear_rx.Goals as goal

pub returns-clause-stands : goal.returns-clause-stands
returns-clause-stands g c = λ r es st. rw (← c.self.view_is) at (stands_rx r c.args.self.now es st)
