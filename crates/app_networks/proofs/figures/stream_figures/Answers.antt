use Rattle.std.proofs.Common.{◌≤◌, ◌++◌, ◌∷◌, ◌∙◌, [], List, ap, length, map, subst, sym, take_all}
use Rattle.std.specs.Option.{ForSome}
use Rattle.net_file.specs.Model.{Stream}
use Rattle.net_file.specs.Rules.{IsTalker}
use Rattle.net_model.specs.declared.links.Link.{Link}
use Rattle.net_latency.specs.Streams.{stream_hop_value}
use Rattle.net_latency.specs.Talkers.{IsTalkerLatency}
use Rattle.app_networks.specs.Figures.{AreFigures}
use Rattle.app_networks.proofs.Figured.{figures_many, next_figures, no_figures}
use Rattle.app_networks.proofs.figures.stream_figures.Goals as goal

pub talker_latency-requires-clause-few : goal.talker_latency-requires-clause-few
talker_latency-requires-clause-few c = subst (λ (s : Stream). length s.hops ≤ 64) (sym c.stream-item.is) (c.requires.few c.loop-stream.stream-index _ c.loop-stream-test.true)

pub talker_latency-requires-clause-talker : goal.talker_latency-requires-clause-talker
talker_latency-requires-clause-talker c = subst (λ (s : Stream). ForSome s.talker IsTalker) (sym c.stream-item.is) (c.requires.talkers c.loop-stream.stream-index _ c.loop-stream-test.true)

pub figures_of_stream-requires-clause-some : goal.figures_of_stream-requires-clause-some
figures_of_stream-requires-clause-some c = subst (λ (s : Stream). 1 ≤ length s.hops) (sym c.stream-item.is) (c.requires.some c.loop-stream.stream-index _ c.loop-stream-test.true)

pub figures_of_stream-requires-clause-few : goal.figures_of_stream-requires-clause-few
figures_of_stream-requires-clause-few c = subst (λ (s : Stream). length s.hops ≤ 64) (sym c.stream-item.is) (c.requires.few c.loop-stream.stream-index _ c.loop-stream-test.true)

pub loop-stream-init : goal.loop-stream-init
loop-stream-init c = subst (λ rows. AreFigures c.args.network.now.plans c.args.network.now.links c.args.bounds.now c.args.links.now [] rows) (sym c.new-rows.ensures.items) (no_figures _ _ _ _)

pub loop-stream-preserved : goal.loop-stream-preserved
loop-stream-preserved c =
    let s = c.stream-item.result in
    let hops = map stream_hop_value s.hops in
    let by_links = subst (λ (ls : List Link). IsTalkerLatency c.plans.result.now ls c.args.bounds.now s.talker hops c.in-Ok.course) c.links.ensures c.in-Ok.ensures in
    let course : IsTalkerLatency c.args.network.now.plans c.args.network.now.links c.args.bounds.now s.talker hops c.in-Ok.course =
    subst (λ ps. IsTalkerLatency ps c.args.network.now.links c.args.bounds.now s.talker hops c.in-Ok.course) c.plans.ensures.plans by_links in
    next_figures c.args.network.now.plans c.args.network.now.links c.args.bounds.now c.args.links.now c.args.streams.now c.loop-stream.stream-index _ s c.loop-stream.rows.items c.push.new.self.items c.in-Ok.course
    c.loop-stream-test.true c.stream-item.is c.loop-stream.invariant course
    (c.in-Ok-push.ensures.items ∙ ap (λ x. c.loop-stream.rows.items ++ x ∷ []) c.figures_of_stream.ensures)

pub returns-clause-figures : goal.returns-clause-figures
returns-clause-figures c =
    let end : length c.args.streams.now ≤ c.loop-stream.stream-index = c.loop-stream-test.false in
    subst (λ (ss : List Stream). AreFigures c.args.network.now.plans c.args.network.now.links c.args.bounds.now c.args.links.now ss c.loop-stream.rows.items)
    (take_all c.loop-stream.stream-index c.args.streams.now end) c.loop-stream.invariant

pub returns-clause-many : goal.returns-clause-many
returns-clause-many c =
    let end : length c.args.streams.now ≤ c.loop-stream.stream-index = c.loop-stream-test.false in
    figures_many _ _ _ _ c.args.streams.now c.loop-stream.rows.items
    (subst (λ (ss : List Stream). AreFigures c.args.network.now.plans c.args.network.now.links c.args.bounds.now c.args.links.now ss c.loop-stream.rows.items)
    (take_all c.loop-stream.stream-index c.args.streams.now end) c.loop-stream.invariant)
