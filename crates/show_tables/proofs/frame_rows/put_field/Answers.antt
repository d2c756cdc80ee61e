use Rattle.bridge_text.proofs.Puts.{put_piece}
use Rattle.show_tables.proofs.frame_rows.put_field.Goals as goal

pub returns : goal.returns
returns g c = put_piece _ _ _ _ _ c.put_number.ensures c.put.ensures
