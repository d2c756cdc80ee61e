use Rattle.std.proofs.Common.{◌≡◌, length}
use Rattle.net_report.specs.SourceFrames.{AreUnknown}
use Rattle.net_report.proofs.sources.unknown_sources.Given as goal

abbrev pub invariant-loop-origin : goal.invariant-loop-origin
invariant-loop-origin g l = record {
  many : length l.roots.items ≡ l.origin-index;
  are : AreUnknown l.roots.items;
}
