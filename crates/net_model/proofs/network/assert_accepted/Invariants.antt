use Rattle.std.proofs.Common.{All, take}
use Rattle.net_model.specs.Checked.{IsAccepted}
use Rattle.net_model.proofs.network.assert_accepted.Given as goal

abbrev pub invariant-loop-accepted : goal.invariant-loop-accepted
invariant-loop-accepted g l = All IsAccepted (take l.accepted-index l.plans)
