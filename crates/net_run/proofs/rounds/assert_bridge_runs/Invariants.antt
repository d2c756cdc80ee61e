use Rattle.std.proofs.Common.{All, take}
use Rattle.net_run.specs.BridgeRuns.{IsBridgeRun}
use Rattle.net_run.proofs.rounds.assert_bridge_runs.Given as goal

abbrev pub invariant-loop-station : goal.invariant-loop-station
invariant-loop-station g l = All IsBridgeRun (take l.station-index l.stations)
