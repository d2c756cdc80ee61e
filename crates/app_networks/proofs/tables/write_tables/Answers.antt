use Rattle.std.proofs.lemmas.Result.{on_ok_weaker}
use Rattle.app_networks.proofs.Rows.{tables_written}
use Rattle.app_networks.proofs.tables.write_tables.Goals as goal

pub returns-clause-tables : goal.returns-clause-tables
returns-clause-tables g c =
    on_ok_weaker c.write_both_tables.result
    (λ written. tables_written c.args.links.now c.args.settled.now c.args.file.now c.args.figures.now
    (g.V.Write.contents c.args.streams.now) (g.V.Write.contents c.put_table.new.writer) (g.V.Write.contents c.write_both_tables.new.streams)
    (g.W.Write.contents c.args.frames.now) (g.W.Write.contents c.put_table-2.new.writer) (g.W.Write.contents c.write_both_tables.new.frames)
    c.in_ok-put_table.ensures c.in_ok-put_table-2.ensures written)
    c.write_both_tables.ensures.tables
