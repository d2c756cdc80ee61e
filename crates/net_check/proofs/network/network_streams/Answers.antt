use Rattle.std.proofs.Common.{◌≡◌, ◌++◌, ◌∷◌, [], ap, map, Vec, ◌∙◌}
use Rattle.std.proofs.lemmas.List.{map_push}
use Rattle.net_file.specs.Model.{Stream}
use Rattle.net_model.specs.declared.links.StreamHop.{StreamHop}
use Rattle.net_latency.specs.Streams.{stream_hop_value}
use Rattle.net_latency.proofs.Lined.{all_ones, one_more}
use Rattle.net_check.proofs.network.network_streams.Goals as goal

pub loop-row-preserved : goal.loop-row-preserved
loop-row-preserved g c =
    let olds = c.loop-row.streams.items in
    let now = map (λ v. v.items) olds in
    one_more (λ (s : Stream). map stream_hop_value s.hops) c.args.rows.now c.loop-row.row-index c.row-item.result now (map (λ v. v.items) c.push.new.self.items) c.loop-row-test.true c.loop-row.invariant
    (ap (map (λ v. v.items)) c.in-Ok-push.ensures.items ∙ map_push (λ v. v.items) olds c.in-Ok.hops
    ∙ ap (λ l. now ++ l ∷ []) (c.in-Ok.ensures ∙ ap (map stream_hop_value) (c.hops.ensures ∙ ap (λ (s : Stream). s.hops) c.row-item.is)))

pub returns : goal.returns
returns g c = all_ones (λ (s : Stream). map stream_hop_value s.hops) c.args.rows.now c.loop-row.row-index (map (λ v. v.items) c.loop-row.streams.items) c.loop-row-test.false c.loop-row.invariant
