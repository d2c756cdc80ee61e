use Rattle.std.proofs.Common.{ap}
use Rattle.std.specs.Prelude.{flat_map, string_bytes}
use Rattle.bridge_text.proofs.Puts.{all_put, item_put, put_as, put_none, put_piece, whole_if}
use Rattle.show_tables.specs.FrameTable.{filter_rows, frames_header}
use Rattle.show_tables.proofs.frames.frame_table.Goals as goal

pub loop-filter-init : goal.loop-filter-init
loop-filter-init g c = put_none _

pub loop-filter-preserved : goal.loop-filter-preserved
loop-filter-preserved g c = item_put (λ f. filter_rows f.0 f.1) c.deref-filter-items.result.now c.loop-filter.filter-index _ _ _ c.loop-filter-item.result
    c.loop-filter-test.true c.loop-filter-item.is c.loop-filter.invariant c.put_filter_frames.ensures

pub returns : goal.returns
returns g c = whole_if string_bytes c.finish.result _ _ _ c.new-text.ensures (put_piece _ _ _ frames_header _ c.put.ensures
    (put_as _ _ _ _ (all_put (λ f. filter_rows f.0 f.1) c.deref-filter-items.result.now c.loop-filter.filter-index _ _ c.loop-filter-test.false c.loop-filter.invariant)
    (ap (flat_map (λ f. filter_rows f.0 f.1)) c.deref-filter-items.ensures.value))) c.finish.ensures.text
