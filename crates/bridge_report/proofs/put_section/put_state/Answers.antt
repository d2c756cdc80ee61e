use Rattle.bridge_report.specs.Section.{state_lines}
use Rattle.bridge_report.proofs.Puts.{put_piece}
use Rattle.bridge_report.proofs.put_section.put_state.Goals as goal

pub returns : goal.returns
unfolding state_lines
returns g c = put_piece _ _ _ _ _ _ c.put_header.ensures (put_piece _ _ _ _ _ _ c.put_counters.ensures (put_piece _ _ _ _ _ _ c.put_flags.ensures c.put_optional_buckets.ensures))
