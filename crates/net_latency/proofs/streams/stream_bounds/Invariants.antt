use Rattle.std.proofs.Common.{◌≡◌, map, take}
use Rattle.net_file.specs.Model.{Stream}
use Rattle.net_latency.specs.Streams.{stream_bound}
use Rattle.net_latency.proofs.streams.stream_bounds.Given as goal

abbrev pub invariant-loop-stream : goal.invariant-loop-stream
invariant-loop-stream g l = l.rows.items ≡ map (λ (s : Stream). stream_bound l.bounds l.links s.hops) (take l.stream-index l.streams)
