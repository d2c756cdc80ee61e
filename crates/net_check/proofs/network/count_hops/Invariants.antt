use Rattle.std.proofs.Common.{◌≡◌, ◌≤◌, ◌*◌, take}
use Rattle.net_check.specs.Networks.{count_hops}
use Rattle.net_check.proofs.network.count_hops.Given as goal

abbrev pub invariant-loop-stream : goal.invariant-loop-stream
invariant-loop-stream g l = record {
  counted : l.count ≡ count_hops (take l.stream-index l.streams);
  few : l.count ≤ 64 * l.stream-index;
}
