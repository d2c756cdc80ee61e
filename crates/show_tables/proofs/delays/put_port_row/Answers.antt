use Rattle.std.proofs.Common.{refl}
use Rattle.bridge_text.proofs.Puts.{put_as, put_piece}
use Rattle.show_tables.specs.DelayTable.{port_row}
use Rattle.show_tables.proofs.delays.put_port_row.Goals as goal

pub returns : goal.returns
unfolding port_row
returns g c = put_as _ _ _ _ (put_piece _ _ _ _ _ c.put_field.ensures (put_piece _ _ _ _ _ c.put_field-2.ensures (put_piece _ _ _ _ _ c.put_field-3.ensures
    (put_piece _ _ _ _ _ c.put_figures.ensures (put_piece _ _ _ _ _ c.put_bound.ensures c.put_losses.ensures)))))
    (rw (c.from.ensures, c.from-2.ensures, c.count_full_on_port.ensures, c.count_never_on_port.ensures, c.deref.ensures.value, c.deref-2.ensures.value, c.deref-3.ensures.value) refl)
