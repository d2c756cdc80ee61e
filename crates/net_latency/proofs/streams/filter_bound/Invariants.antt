use Rattle.std.proofs.Common.{◌≡◌, take}
use Rattle.net_latency.specs.Streams.{filter_bound}
use Rattle.net_latency.proofs.streams.filter_bound.Given as goal

abbrev pub invariant-loop-row : goal.invariant-loop-row
invariant-loop-row l = l.greatest ≡ filter_bound l.filter (take l.row-index l.rows)
