use Rattle.std.proofs.Common.{◌≡◌, length}
use Rattle.app_networks.proofs.incoming.read_captures.Given as goal

abbrev pub invariant-loop-port : goal.invariant-loop-port
invariant-loop-port g l = length l.captures.items ≡ l.port-index
