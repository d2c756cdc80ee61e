use Rattle.std.proofs.Common.{◌≡◌, [], length}
use Rattle.std.specs.Prelude.{All}
use Rattle.net_run.proofs.bridge_run.empty_sinks.Given as goal

abbrev pub invariant-loop-place : goal.invariant-loop-place
invariant-loop-place g l = record {
  many : length l.sinks.items ≡ l.place;
  empty : All (λ d. d.octets ≡ []) l.sinks.items;
}
