use Rattle.std.proofs.Common.{◌≡◌, ◌≤◌, drop, length}
use Rattle.net_run.proofs.Begun.{AreBegunSoFar}
use Rattle.net_run.proofs.rounds.initial_bridge_runs.Given as goal

abbrev pub invariant-loop-came : goal.invariant-loop-came
invariant-loop-came g l = record {
  place : l.bridge ≡ length l.stations.items;
  left : l.came-iterator.rest.items ≡ drop (length l.stations.items) l.fn.incoming.items;
  few : length l.stations.items ≤ length l.fn.incoming.items;
  begun : AreBegunSoFar l.fn.network l.fn.incoming.items l.stations.items;
}
