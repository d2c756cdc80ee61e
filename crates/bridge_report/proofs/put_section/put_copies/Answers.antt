use Rattle.bridge_report.specs.Section.{copy_lines}
use Rattle.std.proofs.Common.{refl}
use Rattle.bridge_report.proofs.Puts.{put_as, put_piece}
use Rattle.bridge_report.proofs.put_section.put_copies.Goals as goal

pub returns : goal.returns
unfolding copy_lines
returns g c = put_as _ _ _ _ _ (put_piece _ _ _ _ _ _ c.put_queued.ensures c.put_delay.ensures) (rw (c.deref.ensures.value, c.deref-2.ensures.value) refl)
