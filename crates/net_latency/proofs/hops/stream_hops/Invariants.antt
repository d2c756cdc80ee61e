use Rattle.std.proofs.Common.{◌≡◌, map, take}
use Rattle.net_latency.specs.Streams.{stream_hop_value}
use Rattle.net_latency.proofs.hops.stream_hops.Given as goal

abbrev pub invariant-loop-row : goal.invariant-loop-row
invariant-loop-row g l = l.hops.items ≡ map stream_hop_value (take l.row-index l.rows)
