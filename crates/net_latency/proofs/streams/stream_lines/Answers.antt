use Rattle.std.proofs.Common.{◌≤◌, ◌++◌, [], List, length, map, refl, subst, sym}
use Rattle.std.specs.Option.{ForSome}
use Rattle.net_file.specs.Model.{Stream}
use Rattle.net_file.specs.Rules.{IsTalker}
use Rattle.net_model.specs.declared.links.Link.{Link}
use Rattle.bridge_text.proofs.Puts.{put_none, put_piece}
use Rattle.net_latency.specs.Streams.{stream_hop_value, stream_line}
use Rattle.net_latency.specs.Talkers.{IsTalkerLatency}
use Rattle.net_latency.proofs.Queued.{next_line, no_lines}
use Rattle.net_latency.proofs.streams.stream_lines.Goals as goal

pub talker_latency-requires-clause-few : goal.talker_latency-requires-clause-few
talker_latency-requires-clause-few g c = subst (λ (s : Stream). length s.hops ≤ 64) (sym c.stream-item.is) (c.requires.few c.loop-stream.stream-index _ c.loop-stream-test.true)

pub talker_latency-requires-clause-talker : goal.talker_latency-requires-clause-talker
talker_latency-requires-clause-talker g c = subst (λ (s : Stream). ForSome s.talker IsTalker) (sym c.stream-item.is) (c.requires.talkers c.loop-stream.stream-index _ c.loop-stream-test.true)

pub put_stream-here-requires-clause-some : goal.put_stream-here-requires-clause-some
put_stream-here-requires-clause-some g c = subst (λ (s : Stream). 1 ≤ length s.hops) (sym c.stream-item.is) (c.requires.some c.loop-stream.stream-index _ c.loop-stream-test.true)

pub put_stream-here-requires-clause-few : goal.put_stream-here-requires-clause-few
put_stream-here-requires-clause-few g c = subst (λ (s : Stream). length s.hops ≤ 64) (sym c.stream-item.is) (c.requires.few c.loop-stream.stream-index _ c.loop-stream-test.true)

pub loop-stream-preserved : goal.loop-stream-preserved
loop-stream-preserved g c =
    let s = c.stream-item.result in
    let hops = map stream_hop_value s.hops in
    let by_links = subst (λ (ls : List Link). IsTalkerLatency c.plans.result.now ls c.args.bounds.now s.talker hops c.in-Ok.course) c.links.ensures c.in-Ok.ensures in
    let course : IsTalkerLatency c.args.network.now.plans c.args.network.now.links c.args.bounds.now s.talker hops c.in-Ok.course =
    subst (λ ps. IsTalkerLatency ps c.args.network.now.links c.args.bounds.now s.talker hops c.in-Ok.course) c.plans.ensures.plans by_links in
    let (octets, grown, lines) = c.loop-stream.invariant in (
      octets ++ stream_line c.args.bounds.now c.args.links.now (s, c.in-Ok.course),
      put_piece _ _ _ _ _ grown c.put_stream-here.ensures.text,
      next_line c.args.network.now.plans c.args.network.now.links c.args.bounds.now c.args.links.now c.args.streams.now c.loop-stream.stream-index _ s octets _ c.loop-stream.kept _ _ c.in-Ok.course
          c.loop-stream-test.true c.stream-item.is lines course refl c.put_stream-here.ensures.kept c.both-kept.ensures,
    )

pub loop-stream-init : goal.loop-stream-init
loop-stream-init g c = ([], put_none _, no_lines _ _ _ _)
