use Rattle.std.proofs.Common.{◌≡◌, ◌≤◌, length, All, vec_capacity}
use Rattle.bridge_relay.proofs.copies.fill_copies.Given as goal

abbrev pub invariant-loop : goal.invariant-loop
invariant-loop g l = record {
  count : length l.copies.items ≡ l.counter;
  octets : All (λ v. v.items ≡ l.octets) l.copies.items;
  room : l.count ≤ vec_capacity l.copies;
}
