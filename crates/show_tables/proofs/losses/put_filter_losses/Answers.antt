use Rattle.show_tables.specs.Losses.{filter_fields}
use Rattle.bridge_text.proofs.Puts.{put_piece}
use Rattle.show_tables.proofs.losses.put_filter_losses.Goals as goal

pub returns : goal.returns
unfolding filter_fields
returns g c = put_piece _ _ _ _ _ c.put_refused_count.ensures c.put_refused_count-2.ensures
