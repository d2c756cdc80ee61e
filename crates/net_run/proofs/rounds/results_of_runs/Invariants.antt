use Rattle.std.proofs.Common.{◌≡◌, ◌++◌, Some, map}
use Rattle.net_run.specs.declared.rounds.BridgeResult.{BridgeResult}
use Rattle.net_run.specs.declared.rounds.EndedRun.{EndedRun}
use Rattle.net_run.specs.BridgeRuns.{sink_octets}
use Rattle.net_run.proofs.rounds.results_of_runs.Given as goal

abbrev pub invariant-loop-run : goal.invariant-loop-run
invariant-loop-run g l = record {
  outcomes : map (λ (s : BridgeResult g.row.A.Denot). Some s.outcome) l.all.items ++ map (λ (s : EndedRun g.row.A.Denot). Some s.outcome) l.run-iterator.rest.items ≡ map (λ (s : EndedRun g.row.A.Denot). Some s.outcome) l.fn.ended.items;
  taps : map (λ (s : BridgeResult g.row.A.Denot). sink_octets s.taps.items) l.all.items ++ map (λ (s : EndedRun g.row.A.Denot). sink_octets s.taps.items) l.run-iterator.rest.items ≡ map (λ (s : EndedRun g.row.A.Denot). sink_octets s.taps.items) l.fn.ended.items;
}
