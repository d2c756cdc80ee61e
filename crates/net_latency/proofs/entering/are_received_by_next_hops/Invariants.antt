use Rattle.std.proofs.Common.{◌≡◌, drop}
use Rattle.net_latency.specs.Entering.{are_received_by_next_hops}
use Rattle.net_latency.proofs.entering.are_received_by_next_hops.Given as goal

abbrev pub invariant-loop-queue : goal.invariant-loop-queue
invariant-loop-queue g l =
    are_received_by_next_hops l.plans l.links l.hops (drop l.queue-index l.queues) ≡ are_received_by_next_hops l.plans l.links l.hops l.queues
