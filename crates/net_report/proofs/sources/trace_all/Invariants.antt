use Rattle.std.proofs.Common.{◌≡◌, ◌<◌, ◌≤◌, ℕ, false, length}
use Rattle.net_report.specs.Passes.{contents, hop_step, traces, upto}
use Rattle.net_report.specs.SourceFrames.{AreSound, IsPortExhausted}
use Rattle.net_report.proofs.sources.trace_all.Given as goal

abbrev pub invariant-loop-place : goal.invariant-loop-place
invariant-loop-place g l = record {
  many : length l.all.items ≡ length l.hops;
  sound : AreSound l.links l.hops l.initial.all.items → AreSound l.links l.hops l.all.items;
  same : l.more ≡ false → l.all ≡ l.initial.all;
  exhausted : l.more ≡ false → (i q : ℕ) → i < l.place → 1 ≤ q → q < 17 → IsPortExhausted l.links l.hops l.initial.all.items i q;
  traced : AreSound l.links l.hops l.initial.all.items → contents l.all.items ≡ upto (hop_step l.links (traces l.hops)) l.place (contents l.initial.all.items);
}
