use Rattle.show_tables.specs.Losses.{loss_fields}
use Rattle.bridge_text.proofs.Puts.{put_piece}
use Rattle.show_tables.proofs.losses.put_losses.Goals as goal

pub returns : goal.returns
unfolding loss_fields
returns g c = put_piece _ _ _ _ _ c.put_filter_losses.ensures (put_piece _ _ _ _ _ c.put_gate_losses.ensures (put_piece _ _ _ _ _ c.put_meter_losses.ensures (put_piece _ _ _ _ _ c.put_field.ensures c.put_last_field.ensures)))
