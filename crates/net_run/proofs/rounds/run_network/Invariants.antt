use Rattle.std.proofs.Common.{◌≡◌, ◌≤◌, map}
use Rattle.net_run.specs.declared.rounds.RoundsFault.TheVariants as fault
use Rattle.net_run.specs.Delivery.{AreRunsFed}
use Rattle.net_run.specs.Rounds.{AreRunsBeforeRound, AreUnsettledBefore, StopsNetworkRun}
use Rattle.net_run.specs.BridgeRuns.{constant_part}
use Rattle.net_run.proofs.rounds.run_network.Given as goal

abbrev pub invariant-loop-turn : goal.invariant-loop-turn
invariant-loop-turn g l = record {
  ground : map constant_part l.stations.items ≡ map constant_part l.initial.stations.items;
  fed : AreRunsFed l.stations.items;
  before : AreRunsBeforeRound l.fn.network l.fn.incoming.items l.turn l.stations.items;
  last : StopsNetworkRun l.fn.network l.fn.incoming.items l.turn (fault.NotSettled l.last.0 l.last.1);
  earlier : AreUnsettledBefore l.fn.network l.fn.incoming.items l.turn;
  few : l.turn ≤ l.fn.rounds;
}
