use Rattle.std.proofs.Common.{All, subst}
use Rattle.std.proofs.lemmas.List.{take_all}
use Rattle.std.proofs.lemmas.List.Elements.{All-more}
use Rattle.net_run.specs.BridgeRuns.{IsBridgeRun}
use Rattle.net_run.proofs.rounds.assert_bridge_runs.Goals as goal

pub loop-station-preserved : goal.loop-station-preserved
loop-station-preserved g c =
    All-more IsBridgeRun c.args.stations.now c.loop-station.station-index c.station-item.result c.loop-station-test.true c.loop-station.invariant (subst IsBridgeRun c.station-item.is c.port_count-size.ensures.kept)

pub returns : goal.returns
returns g c = subst (All IsBridgeRun) (take_all c.loop-station.station-index c.args.stations.now c.loop-station-test.false) c.loop-station.invariant
