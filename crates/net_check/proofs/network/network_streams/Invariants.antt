use Rattle.std.proofs.Common.{◌≡◌, map, take}
use Rattle.net_file.specs.Model.{Stream}
use Rattle.net_latency.specs.Streams.{stream_hop_value}
use Rattle.net_check.proofs.network.network_streams.Given as goal

abbrev pub invariant-loop-row : goal.invariant-loop-row
invariant-loop-row g l = map (λ v. v.items) l.streams.items ≡ map (λ (s : Stream). map stream_hop_value s.hops) (take l.row-index l.rows)
