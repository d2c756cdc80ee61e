use Rattle.std.proofs.Common.{◌≤◌, ◌++◌, ◌∷◌, [], ◌∙◌, List, ap, length, map, subst, sym, take_all, ℕ}
use Rattle.net_file.specs.Model.{Stream}
use Rattle.net_latency.specs.Streams.{stream_bound}
use Rattle.net_latency.proofs.Lined.{one_more}
use Rattle.net_latency.proofs.streams.stream_bounds.Goals as goal

pub stream_bound-requires-clause-few : goal.stream_bound-requires-clause-few
stream_bound-requires-clause-few g c =
    let few = subst (λ (s : Stream). length s.hops ≤ 64) (sym c.stream-item.is) (c.requires.few c.loop-stream.stream-index _ c.loop-stream-test.true) in
    subst (λ (hs : List (ℕ × ℕ)). length hs ≤ 64) (sym c.hops.ensures) few

pub returns : goal.returns
returns g c =
    let end : length c.args.streams.now ≤ c.loop-stream.stream-index = c.loop-stream-test.false in
    c.loop-stream.invariant ∙ ap (map (λ (s : Stream). stream_bound c.args.bounds.now c.args.links.now s.hops)) (take_all c.loop-stream.stream-index c.args.streams.now end)

pub loop-stream-preserved : goal.loop-stream-preserved
loop-stream-preserved g c =
    let now = c.loop-stream.rows.items in
    one_more (λ (s : Stream). stream_bound c.args.bounds.now c.args.links.now s.hops) c.args.streams.now c.loop-stream.stream-index c.stream-item.result now c.push.new.self.items c.loop-stream-test.true c.loop-stream.invariant
    (c.in-Ok.ensures.items ∙ ap (λ n. now ++ n ∷ []) (c.stream_bound.ensures ∙ ap (stream_bound c.args.bounds.now c.args.links.now) (c.hops.ensures ∙ ap (λ (s : Stream). s.hops) c.stream-item.is)))
