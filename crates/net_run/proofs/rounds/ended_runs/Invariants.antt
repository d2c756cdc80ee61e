use Rattle.std.proofs.Common.{◌≡◌, ◌++◌, Some, map}
use Rattle.std.specs.Prelude.{All}
use Rattle.net_run.specs.declared.rounds.EndedRun.{EndedRun}
use Rattle.net_run.specs.BridgeRuns.{HasRun, BridgeRunState, sink_octets}
use Rattle.net_run.proofs.rounds.ended_runs.Given as goal

abbrev pub invariant-loop-station : goal.invariant-loop-station
invariant-loop-station g l = record {
  outcomes : map (λ (s : EndedRun g.row.A.Denot). Some s.outcome) l.all.items ++ map (λ (x : BridgeRunState g.row.A.Denot). x.outcome) l.station-iterator.rest.items ≡ map (λ (x : BridgeRunState g.row.A.Denot). x.outcome) l.fn.stations.items;
  taps : map (λ (s : EndedRun g.row.A.Denot). sink_octets s.taps.items) l.all.items ++ map (λ (x : BridgeRunState g.row.A.Denot). x.taps) l.station-iterator.rest.items ≡ map (λ (x : BridgeRunState g.row.A.Denot). x.taps) l.fn.stations.items;
  runs : All HasRun l.station-iterator.rest.items;
}
