use Rattle.std.proofs.Common.{ℕ, drop, take}
use Rattle.app_networks.specs.Counted.{AreTotals}
use Rattle.app_networks.specs.Tables.{WriteStreams}
use Rattle.app_networks.proofs.tables.write_both_tables.Given as goal

abbrev pub invariant-loop-place : goal.invariant-loop-place
invariant-loop-place g l = record {
  counts : (n m : ℕ) → AreTotals l.links l.settled (drop l.place l.fn.file.streams) l.totals.frames l.totals.delivered n m → AreTotals l.links l.settled l.fn.file.streams 0 0 n m;
  tables : WriteStreams l.links l.settled l.fn.file.bridges (take l.place l.fn.file.streams) (take l.place l.figures)
      (g.V.Write.contents l.fn.streams) (g.V.Write.contents l.streams) (g.W.Write.contents l.fn.frames) (g.W.Write.contents l.frames);
}
