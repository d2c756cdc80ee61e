use Rattle.std.proofs.Common.{◌≡◌, ◌≤◌, length, take, vec_capacity, vec_len}
use Rattle.bridge_relay.proofs.new_relay.copy_gates.Given as goal

abbrev pub invariant-loop-gate : goal.invariant-loop-gate
invariant-loop-gate g l = record {
  copies : l.copies.items ≡ take l.gate-index l.gates;
  few : vec_len l.copies ≤ l.gate-index;
  room : length l.gates ≤ vec_capacity l.copies;
}
