use Rattle.std.proofs.Common.{◌≡◌, length}
use Rattle.net_report.specs.SourceFrames.{AreOwnSources}
use Rattle.net_report.proofs.sources.first_hop_sources.Given as goal

abbrev pub invariant-loop-origin : goal.invariant-loop-origin
invariant-loop-origin g l = record {
  many : length l.roots.items ≡ l.origin-index;
  are : AreOwnSources l.origins l.roots.items;
}
