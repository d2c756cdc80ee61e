use Rattle.std.proofs.Common.{ap}
use Rattle.show_tables.specs.FrameTable.{field}
use Rattle.bridge_text.proofs.Puts.{put_as}
use Rattle.show_tables.proofs.losses.put_refused_count.Goals as goal

pub returns : goal.returns
returns g c = put_as _ _ _ _ c.put_field.ensures (ap field c.count_refused.ensures)
