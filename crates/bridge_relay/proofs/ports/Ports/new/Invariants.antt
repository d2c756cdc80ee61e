use Rattle.std.proofs.Common.{◌≤◌, vec_len, vec_capacity}
use Rattle.bridge_relay.proofs.Making.{AreFirst}
use Rattle.bridge_relay.proofs.ports.Ports.new.Given as goal

abbrev pub invariant-loop-place : goal.invariant-loop-place
invariant-loop-place g l = record {
  first : AreFirst l.plan.ports l.slots.items l.place;
  few : vec_len l.slots ≤ l.place;
  room : 16 ≤ vec_capacity l.slots;
}
