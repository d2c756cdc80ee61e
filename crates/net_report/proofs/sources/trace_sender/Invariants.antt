use Rattle.std.proofs.Common.{◌≡◌, ◌<◌, ℕ, List, false, length}
use Rattle.net_model.specs.declared.links.Link.{Link}
use Rattle.net_model.specs.NetworkParts.{sender_value}
use Rattle.net_report.specs.Passes.{contents, pair_step, traces, upto}
use Rattle.net_report.specs.SourceFrames.{AreSound, IsPairExhausted, IsSenderOfPort}
use Rattle.net_report.proofs.sources.trace_sender.Given as goal

abbrev pub invariant-loop-other : goal.invariant-loop-other
invariant-loop-other g l = record {
  many : length l.all.items ≡ length l.hops;
  sound : (links : List Link) → IsSenderOfPort links l.hops l.place l.port (sender_value l.sender) → AreSound links l.hops l.initial.all.items → AreSound links l.hops l.all.items;
  same : l.more ≡ false → l.all ≡ l.initial.all;
  exhausted : l.more ≡ false → (j : ℕ) → j < l.other → IsPairExhausted l.hops l.initial.all.items (sender_value l.sender) l.place l.port j;
  traced : (links : List Link) → IsSenderOfPort links l.hops l.place l.port (sender_value l.sender) → AreSound links l.hops l.initial.all.items
      → contents l.all.items ≡ upto (pair_step (traces l.hops) (sender_value l.sender) l.place l.port) l.other (contents l.initial.all.items);
}
