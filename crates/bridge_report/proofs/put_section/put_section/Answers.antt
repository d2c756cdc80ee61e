use Rattle.bridge_report.specs.Section.{section_text}
use Rattle.bridge_report.proofs.Puts.{put_piece}
use Rattle.bridge_report.proofs.put_section.put_section.Goals as goal

pub returns : goal.returns
unfolding section_text
returns g c = put_piece _ _ _ _ _ _ c.put_state.ensures (put_piece _ _ _ _ _ _ c.put_copies.ensures (put_piece _ _ _ _ _ _ c.put_lists.ensures c.put.ensures))
