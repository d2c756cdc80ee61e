use Rattle.std.proofs.Common.{ap, ◌∙◌}
use Rattle.net_report.specs.FrameTable.{departure_lines, drop_lines, verdict_lines}
use Rattle.bridge_text.proofs.Puts.{put_as, put_piece}
use Rattle.net_report.proofs.frame_table.put_hop_lines.Goals as goal

pub returns : goal.returns
returns g c =
    let stream = c.args.stream.now in
    let hop = c.args.hop.now in
    let roots = c.args.roots.now in
    let origins = c.args.view.now.origins.items in
    let verdicts = ap (λ l. verdict_lines stream hop roots l 1 c.deref-2.result.now) c.deref.ensures.value ∙ ap (λ l. verdict_lines stream hop roots origins 1 l) c.deref-2.ensures.value in
    let drops = ap (λ l. drop_lines stream hop roots l c.deref-4.result.now) c.deref-3.ensures.value ∙ ap (λ l. drop_lines stream hop roots origins l) c.deref-4.ensures.value in
    let departures = ap (λ l. departure_lines stream hop roots l c.args.ways.now c.deref-6.result.now) c.deref-5.ensures.value ∙ ap (λ l. departure_lines stream hop roots origins c.args.ways.now l) c.deref-6.ensures.value in
    put_piece _ _ _ _ _ (put_as _ _ _ _ c.put_verdicts.ensures verdicts) (put_piece _ _ _ _ _ (put_as _ _ _ _ c.put_drops.ensures drops) (put_as _ _ _ _ c.put_departures.ensures departures))
