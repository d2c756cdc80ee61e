use Rattle.std.proofs.Common.{◌≡◌, ◌+◌, ◌-◌, ◌<◌, ◌≤◌, ℕ, false, length}
use Rattle.net_report.specs.Passes.{contents, port_step, traces, upto}
use Rattle.net_report.specs.SourceFrames.{AreSound, IsPortExhausted}
use Rattle.net_report.proofs.sources.trace_hop.Given as goal

abbrev pub invariant-loop-port : goal.invariant-loop-port
invariant-loop-port g l = record {
  many : length l.all.items ≡ length l.hops;
  sound : AreSound l.links l.hops l.initial.all.items → AreSound l.links l.hops l.all.items;
  same : l.more ≡ false → l.all ≡ l.initial.all;
  exhausted : l.more ≡ false → (q : ℕ) → 1 ≤ q → q < l.port → IsPortExhausted l.links l.hops l.initial.all.items l.place q;
  traced : AreSound l.links l.hops l.initial.all.items
      → contents l.all.items ≡ upto (λ (k : ℕ). port_step l.links (traces l.hops) l.place (k + 1)) (l.port - 1) (contents l.initial.all.items);
}
