use Rattle.std.proofs.Common.{All, subst, sym, ◌∙◌}
use Rattle.net_latency.specs.StreamLatency.{IsQueue}
use Rattle.net_latency.specs.Entering.{IsStreamCourse}
use Rattle.net_latency.specs.Talkers.{hop_queues}
use Rattle.net_latency.proofs.talkers.latency_through_hops.Goals as goal

pub checked_stream_latency-requires-clause-queues : goal.checked_stream_latency-requires-clause-queues
checked_stream_latency-requires-clause-queues g c = subst (λ qs. All IsQueue qs) (sym c.deref.ensures.value) c.in-Ok.ensures.queues

pub checked_stream_latency-requires-clause-traffic : goal.checked_stream_latency-requires-clause-traffic
checked_stream_latency-requires-clause-traffic g c = c.talker_traffic-traffic.ensures.rules

pub returns : goal.returns
returns g c =
    let hops = c.args.hops.now in
    let r = c.checked_stream_latency.result in
    let by_queues = subst (λ qs. IsStreamCourse c.args.plans.now c.args.links.now hops qs c.talker_traffic-traffic.result r) (c.deref.ensures.value ∙ c.in-Ok.ensures.same) c.checked_stream_latency.ensures in
    subst (λ t. IsStreamCourse c.args.plans.now c.args.links.now hops (hop_queues c.args.bounds.now hops) t r) c.talker_traffic-traffic.ensures.traffic by_queues
