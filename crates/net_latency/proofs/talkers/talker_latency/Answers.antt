use Rattle.std.proofs.Common.{◌≤◌, ap, length, map, subst, sym, ◌∙◌}
use Rattle.std.specs.Prelude.{IfOk}
use Rattle.std.proofs.lemmas.List.{length-map}
use Rattle.net_latency.specs.Entering.{IsStreamCourse}
use Rattle.net_latency.specs.Streams.{stream_hop_value}
use Rattle.net_latency.specs.Talkers.{IsTalkerLatency, hop_queues, talker_traffic}
use Rattle.net_latency.proofs.talkers.talker_latency.Goals as goal

pub latency_through_hops-requires-clause-few : goal.latency_through_hops-requires-clause-few
latency_through_hops-requires-clause-few g c =
    subst (λ l. length l ≤ 64) (sym (c.deref.ensures.value ∙ c.in-Ok.ensures ∙ ap (map stream_hop_value) c.hops.ensures)) (subst (λ n. n ≤ 64) (sym (length-map c.args.stream.now.hops stream_hop_value)) c.requires.few)

pub latency_through_hops-requires-clause-talker : goal.latency_through_hops-requires-clause-talker
latency_through_hops-requires-clause-talker g c = c.requires.talker _ (sym c.in-Some.ensures)

pub returns : goal.returns
returns g c =
    let r = c.latency_through_hops.result in
    let plans = c.args.plans.now in
    let links = c.args.links.now in
    let bounds = c.args.bounds.now in
    subst (λ t. IfOk r (IsTalkerLatency plans links bounds t (map stream_hop_value c.args.stream.now.hops))) c.in-Some.ensures
    (subst (λ hops. IfOk r (IsStreamCourse plans links hops (hop_queues bounds hops) (talker_traffic c.in-Some.talker))) (c.deref.ensures.value ∙ c.in-Ok.ensures ∙ ap (map stream_hop_value) c.hops.ensures) c.latency_through_hops.ensures)
