use Rattle.show_tables.specs.Losses.{gate_fields}
use Rattle.bridge_text.proofs.Puts.{put_piece}
use Rattle.show_tables.proofs.losses.put_gate_losses.Goals as goal

pub returns : goal.returns
unfolding gate_fields
returns g c = put_piece _ _ _ _ _ c.put_refused_count.ensures (put_piece _ _ _ _ _ c.put_refused_count-2.ensures (put_piece _ _ _ _ _ c.put_refused_count-3.ensures c.put_refused_count-4.ensures))
