use Rattle.std.proofs.Common.{◌≡◌, drop}
use Rattle.net_model.specs.Faults.{is_repeated_hop}
use Rattle.net_model.proofs.network_tests.is_repeated_hop.Given as goal

abbrev pub invariant-loop-stream : goal.invariant-loop-stream
invariant-loop-stream g l = is_repeated_hop (drop l.stream-index l.streams) l.hops l.hop ≡ is_repeated_hop l.streams l.hops l.hop
