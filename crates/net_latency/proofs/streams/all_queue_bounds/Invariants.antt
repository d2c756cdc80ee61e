use Rattle.std.proofs.Common.{All, take}
use Rattle.net_latency.specs.Bounds.{HasValidPort}
use Rattle.net_latency.specs.Streams.{AreQueueBoundsOfPlans}
use Rattle.net_latency.proofs.streams.all_queue_bounds.Given as goal

abbrev pub invariant-loop-accepted : goal.invariant-loop-accepted
invariant-loop-accepted g l = record {
  are_bounds : AreQueueBoundsOfPlans (take l.accepted-index l.plans) l.bounds.items;
  placed : All (λ v. All HasValidPort v.items) l.bounds.items;
}
