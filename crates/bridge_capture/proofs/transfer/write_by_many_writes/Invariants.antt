use Rattle.std.proofs.Common.{◌≡◌, true, false, length, ◌-◌, ◌≤◌, take}
use Rattle.std.specs.Io.KnownBytes.{Appends}
use Rattle.bridge_capture.proofs.transfer.write_by_many_writes.Given as goal

abbrev pub invariant-loop-at : goal.invariant-loop-at
invariant-loop-at g l =
    let contents = g.W.ByteSink.contents in
    record {
      within : l.at ≤ length l.octets;
      fresh : g.W.ByteSink.has_failed l.fn.sink ≡ true → (l.at ≡ 0) × (g.W.ByteSink.has_failed l.sink ≡ true);
      works : g.W.ByteSink.has_failed l.fn.sink ≡ false → g.W.ByteSink.has_failed l.sink ≡ false;
      sure : g.W.ByteSink.never_fails l.fn.sink ≡ true → g.W.ByteSink.never_fails l.sink ≡ true;
      written : Appends (contents l.fn.sink) (contents l.sink) (take l.at l.octets);
    }

abbrev pub decreases-loop-at : goal.decreases-loop-at
decreases-loop-at g l = length l.octets - l.at
