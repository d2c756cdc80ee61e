use Rattle.std.proofs.Common.{◌+◌, ◌-◌, ◌*◌, take}
use Rattle.net_latency.specs.StreamLatency.{IsHopLatency, stream_model}
use Rattle.net_latency.proofs.Gathering.{IsGathered}
use Rattle.net_latency.proofs.latency.+hop_latency.Given as goal

abbrev pub decreases-queue_latency : goal.decreases-queue_latency
decreases-queue_latency g l = l.depth * 3 + 1

abbrev pub decreases-add_queue_latency : goal.decreases-add_queue_latency
decreases-add_queue_latency g l = l.depth * 3 + 2

abbrev pub decreases-hop_latency : goal.decreases-hop_latency
decreases-hop_latency g l = l.depth * 3

abbrev pub invariant-hop_latency-loop-queue : goal.invariant-hop_latency-loop-queue
invariant-hop_latency-loop-queue g l = IsGathered (IsHopLatency (stream_model l.case) (l.depth - 1)) (stream_model l.case) l.hop l.came l.passes (take l.queue-index l.queues) l.gathered
