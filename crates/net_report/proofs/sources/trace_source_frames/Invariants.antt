use Rattle.std.proofs.Common.{◌≡◌, ℕ, length}
use Rattle.std.specs.Fn.{iterate}
use Rattle.net_report.specs.Passes.{begun_of, contents, pass, traces}
use Rattle.net_report.specs.SourceFrames.{AreSound}
use Rattle.net_report.proofs.sources.trace_source_frames.Given as goal

abbrev pub invariant-loop : goal.invariant-loop
invariant-loop g l = record {
  many : length l.all.items ≡ length l.hops;
  sound : AreSound l.links l.hops l.all.items;
  traced : (n : ℕ) × (contents l.all.items ≡ iterate (pass l.links (traces l.hops)) n (begun_of (traces l.hops)));
}
