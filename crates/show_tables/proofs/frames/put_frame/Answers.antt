use Rattle.std.proofs.Common.{rules}
use Rattle.show_tables.specs.FrameTable.{copy_rows, rows_or_lone}
use Rattle.show_tables.proofs.Told.{lone_none, none_put}
use Rattle.show_tables.proofs.frames.put_frame.Goals as goal

pub returns-then-len-before : goal.returns-then-len-before
returns-then-len-before g c =
    let rows = copy_rows c.args.frame.now c.args.departures.now c.args.drops.now in
    none_put rows (rows_or_lone c.args.frame.now rows) c.len-before.result c.len.result _ _ _ _ c.len-before.ensures c.len.ensures (search rules) (lone_none c.args.frame.now rows) c.put_copies.ensures c.put_lone_row.ensures
