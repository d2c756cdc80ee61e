use Rattle.std.proofs.Common.{◌≡◌, ℕ, length}
use Rattle.bridge_semantics.specs.declared.outcome.Outcome.{Outcome}
use Rattle.net_run.specs.Rounds.{AreOutcomes}
use Rattle.app_networks.specs.InTime.{AreHopRuns}
use Rattle.app_networks.proofs.tables.hop_runs.Given as goal

abbrev pub invariant-loop-hop : goal.invariant-loop-hop
invariant-loop-hop l = record {
  many : length l.runs.items ≡ l.hop-index;
  told : (o : ℕ → Outcome _) → AreOutcomes l.settled o → AreHopRuns o l.hops l.runs.items;
}
