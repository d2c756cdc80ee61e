use Rattle.net_latency.proofs.entering.are_received_by_next_hops.Goals as goal

pub is_handed-requires : goal.is_handed-requires
is_handed-requires g c = c.requires c.loop-queue.queue-index _ c.loop-queue-test.true
