use Rattle.std.proofs.Common.{refl}
use Rattle.bridge_text.proofs.Puts.{put_as, put_piece}
use Rattle.show_tables.specs.DelayTable.{unsent_row}
use Rattle.show_tables.proofs.delays.put_unsent_row.Goals as goal

pub returns : goal.returns
unfolding unsent_row
returns g c = put_as _ _ _ _ (put_piece _ _ _ _ _ c.put_field.ensures (put_piece _ _ _ _ _ c.put.ensures c.put_losses.ensures))
    (rw (c.from.ensures, c.count_full.ensures, c.count_never_fitting.ensures, c.deref.ensures.value, c.deref-2.ensures.value, c.deref-3.ensures.value) refl)
