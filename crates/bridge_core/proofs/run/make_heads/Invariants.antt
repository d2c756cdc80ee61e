use Rattle.bridge_core.proofs.Heads.{AreFirstHeads}
use Rattle.bridge_core.proofs.run.make_heads.Given as goal

abbrev pub invariant-loop-place : goal.invariant-loop-place
invariant-loop-place g l = AreFirstHeads (g.H.Agenda.held l.heads) l.lanes l.place
