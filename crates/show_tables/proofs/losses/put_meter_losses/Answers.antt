use Rattle.show_tables.specs.Losses.{meter_fields}
use Rattle.bridge_text.proofs.Puts.{put_piece}
use Rattle.show_tables.proofs.losses.put_meter_losses.Goals as goal

pub returns : goal.returns
unfolding meter_fields
returns g c = put_piece _ _ _ _ _ c.put_refused_count.ensures c.put_refused_count-2.ensures
