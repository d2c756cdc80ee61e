use Rattle.std.proofs.Common.{◌≡◌, ◌≤◌, length, vec_len, vec_capacity}
use Rattle.bridge_capture.proofs.Looks.{HasLooked}
use Rattle.bridge_capture.proofs.capture_reader.begin_readers.Given as goal

abbrev pub invariant-loop-place : goal.invariant-loop-place
invariant-loop-place g l = record {
  looked : HasLooked (g.R.ByteSource.remaining) (g.R.ByteSource.never_fails) l.ports l.fn.sources l.sources l.lanes.items;
  count : vec_len l.lanes ≡ l.place;
  room : length l.ports ≤ vec_capacity l.lanes;
}
