use Rattle.bridge_text.proofs.Puts.{put_piece}
use Rattle.show_tables.proofs.frame_rows.put_port_copies.Goals as goal

pub returns : goal.returns
returns g c = put_piece _ _ _ _ _ c.put_departure_rows.ensures c.put_drop_rows.ensures
