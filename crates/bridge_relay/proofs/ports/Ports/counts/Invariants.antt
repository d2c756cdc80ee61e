use Rattle.std.proofs.Common.{◌≡◌, ◌≤◌, vec_len, vec_capacity}
use Rattle.bridge_relay.specs.Counting.{port_counts}
use Rattle.bridge_relay.proofs.ports.Ports.counts.Given as goal

abbrev pub invariant-loop-place : goal.invariant-loop-place
invariant-loop-place g l = record {
  counts : l.counts.items ≡ port_counts l.self-inside.slots.items l.place;
  few : vec_len l.counts ≤ l.place;
  room : 16 ≤ vec_capacity l.counts;
}
