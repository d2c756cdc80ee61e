use Rattle.std.proofs.Common.{◌≡◌, length}
use Rattle.app_networks.proofs.outputs.open_bridges.Given as goal

abbrev pub invariant-loop-accepted : goal.invariant-loop-accepted
invariant-loop-accepted g l = length l.all.items ≡ l.accepted-index
