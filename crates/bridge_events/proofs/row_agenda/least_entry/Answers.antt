use Rattle.std.proofs.Common.{◌+◌, arith, refl, subst, sym, Option, None}
use Rattle.std.specs.Prelude.{slice_index_or}
use Rattle.bridge_events.specs.Least.{row_time, IsLeast, earlier_entry}
use Rattle.bridge_events.proofs.Rows.{least_more, least_all, least_none, up_to, in_row_next, in_row_past}
use Rattle.bridge_events.proofs.row_agenda.least_entry.Goals as goal

pub loop-place-init : goal.loop-place-init
loop-place-init c = least_none (row_time c.args.row.now) refl

pub loop-place-preserved : goal.loop-place-preserved
loop-place-preserved c =
    let row = c.args.row.now in
    let k = c.loop-place.place in
    subst (IsLeast (up_to (k + 1) (row_time row))) (sym (c.earlier_entry-best.ensures)) (subst (λ (o : Option _). IsLeast (up_to (k + 1) (row_time row)) (earlier_entry c.loop-place.best o)) (sym c.entry.ensures) (least_more k (row_time row) c.loop-place.best (slice_index_or row k None) (in_row_next row k) c.loop-place.invariant))

pub returns : goal.returns
returns c = least_all c.loop-place.place (row_time c.args.row.now) c.loop-place.best (λ p l. in_row_past c.args.row.now p (omega arith)) c.loop-place.invariant
