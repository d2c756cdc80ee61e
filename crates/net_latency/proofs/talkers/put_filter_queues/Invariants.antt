use Rattle.std.proofs.Common.{◌≡◌, ◌++◌, All, take}
use Rattle.net_latency.specs.StreamLatency.{IsQueue}
use Rattle.net_latency.specs.Talkers.{filter_queues}
use Rattle.net_latency.proofs.talkers.put_filter_queues.Given as goal

abbrev pub invariant-loop-row : goal.invariant-loop-row
invariant-loop-row g l = record {
  more : l.queues.items ≡ l.initial.queues.items ++ filter_queues (take l.row-index l.rows) l.hop;
  are_queues : All IsQueue l.queues.items;
}
