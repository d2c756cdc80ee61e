use Rattle.std.proofs.Common.{◌≡◌, length}
use Rattle.net_report.specs.SourceFrames.{AreInitialSources, AreFirstHopFramesKnown, HaveEach}
use Rattle.net_report.proofs.sources.initial_sources.Given as goal

abbrev pub invariant-loop-place : goal.invariant-loop-place
invariant-loop-place g l = record {
  many : length l.all.items ≡ l.place;
  begun : AreInitialSources l.hops l.all.items;
  first : AreFirstHopFramesKnown l.hops l.all.items;
  each : HaveEach l.hops l.all.items;
}
