use Rattle.std.proofs.Common.{subst, sym}
use Rattle.std.proofs.KnownBytes.{Appends-kept}
use Rattle.app_networks.specs.Counted.{AreTotals}
use Rattle.app_networks.specs.declared.tables.Totals.{Totals}
use Rattle.app_networks.proofs.tables.put_tables.Goals as goal

pub returns-in-Ok-end_tables-clause-ok : goal.returns-in-Ok-end_tables-clause-ok
returns-in-Ok-end_tables-clause-ok g c =
    subst (λ (t : Totals). AreTotals c.args.links.now c.args.settled.now c.args.file.now.streams 0 0 t.frames t.delivered) (sym c.in-Ok-end_tables.ensures.totals) c.in-Ok.ensures.counts

pub returns-in-Ok-end_tables-clause-written : goal.returns-in-Ok-end_tables-clause-written
returns-in-Ok-end_tables-clause-written g c =
    let told = c.in-Ok.ensures.tables in (
      told.0,
      told.1,
      told.2,
      Appends-kept _ _ _ _ told.3 c.in-Ok-end_tables.ensures.streams,
      Appends-kept _ _ _ _ told.4 c.in-Ok-end_tables.ensures.frames,
    )
