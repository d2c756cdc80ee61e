use Rattle.std.proofs.Common.{◌≡◌, ◌+◌, drop}
use Rattle.net_latency.specs.Talkers.{first_misfit}
use Rattle.net_latency.proofs.talkers.first_misfit.Given as goal

abbrev pub invariant-loop-stream : goal.invariant-loop-stream
invariant-loop-stream g l = record {
  index : l.index ≡ l.stream-index + 1;
  same : first_misfit l.plans l.index (drop l.stream-index l.streams) ≡ first_misfit l.plans 1 l.streams;
}
