use Rattle.bridge_report.specs.Section.{list_lines}
use Rattle.std.proofs.Common.{refl}
use Rattle.bridge_report.proofs.Puts.{put_as, put_piece}
use Rattle.bridge_report.proofs.put_section.put_lists.Goals as goal

pub returns : goal.returns
unfolding list_lines
returns g c = put_as _ _ _ _ _ (put_piece _ _ _ _ _ _ c.put_frames.ensures (put_piece _ _ _ _ _ _ c.put_drops.ensures c.put_departures.ensures)) (rw (c.deref.ensures.value, c.deref-2.ensures.value, c.deref-3.ensures.value) refl)
