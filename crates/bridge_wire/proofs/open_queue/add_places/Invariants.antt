use Rattle.std.proofs.Common.{◌≡◌, ◌+◌, slice_get, vec_len}
use Rattle.bridge_wire.proofs.open_queue.add_places.Given as goal

abbrev pub invariant-loop : goal.invariant-loop
invariant-loop g l = record {
  count : vec_len l.places ≡ l.counter + 1;
  first : slice_get l.places.items 0 ≡ slice_get l.fn.places.items 0;
}
