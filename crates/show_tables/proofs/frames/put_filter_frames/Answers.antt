use Rattle.std.proofs.Common.{◌∙◌, ap}
use Rattle.bridge_text.proofs.Puts.{put_as}
use Rattle.show_tables.specs.FrameTable.{frame_drops, frame_departures}
use Rattle.show_tables.proofs.Told.{filter_told}
use Rattle.show_tables.proofs.frames.put_filter_frames.Goals as goal

pub returns : goal.returns
returns g c = put_as _ _ _ _ c.put_frames.ensures (filter_told c.args.filter _ c.in-Ok.departures.items c.args.view.now.departures.items _ c.in-Ok-drops_by_frame.drops.items c.args.view.now.drops.items _ _ _ _
    c.deref-5.ensures.value c.deref-6.ensures.value c.deref-3.ensures.value c.deref-4.ensures.value
    (λ own. c.in-Ok.ensures.same own ∙ ap (frame_departures own) c.deref.ensures.value)
    (λ own. c.in-Ok-drops_by_frame.ensures.same own ∙ ap (frame_drops own) c.deref-2.ensures.value))
