use Rattle.std.proofs.Common.{ℕ, List, subst}
use Rattle.std.specs.Prelude.{IfOk}
use Rattle.net_run.specs.BridgeRuns.{IsDelayedCapture}
use Rattle.net_run.proofs.Turns.{looked_up, tap_there}
use Rattle.net_run.proofs.rounds.capture_over_link.Goals as goal

pub returns : goal.returns
returns g c =
    let same = tap_there c.args.stations.now c.args.sender.from.bridge c.args.sender.from.port c.in-Some.station.now (looked_up c.args.stations.now c.args.sender.from.bridge _ c.in-Some.station.now c.in-Some.ensures.lookup.0 c.in-Some.ensures.lookup.1) in
    subst (λ (t : List ℕ). IfOk c.delivered_capture.result (IsDelayedCapture c.args.sender.delay t)) same c.delivered_capture.ensures
