-- Ended runs of bridges: results and sent captures without inputs.
use Rattle.std.specs.Prelude.{◌≡◌, Some, List, map}
use Rattle.net_run.specs.declared.rounds.BridgeResult.{BridgeResult}
use Rattle.net_run.specs.declared.rounds.EndedRun.{EndedRun}
use Rattle.net_run.specs.BridgeRuns.{BridgeRunState, sink_octets}

-- Holds if each ended run has the result and the sent captures of its bridge in `xs`.
pub record AreEndedRuns {A : Type 0} (xs : List (BridgeRunState A)) (ended : List (EndedRun A)) : Type 0 where
  pub outcomes : map (λ (s : EndedRun A). Some s.outcome) ended ≡ map (λ x. x.outcome) xs
  pub taps : map (λ (s : EndedRun A). sink_octets s.taps.items) ended ≡ map (λ x. x.taps) xs

-- Holds if the results `settled` have the results and the octets of the ended runs.
pub record AreResultsOfRuns {A : Type 0} (ended : List (EndedRun A)) (settled : List (BridgeResult A)) : Type 0 where
  pub outcomes : map (λ (s : BridgeResult A). Some s.outcome) settled ≡ map (λ (s : EndedRun A). Some s.outcome) ended
  pub taps : map (λ (s : BridgeResult A). sink_octets s.taps.items) settled ≡ map (λ (s : EndedRun A). sink_octets s.taps.items) ended
