use Rattle.std.proofs.Common.{◌≡◌, true, length, ◌-◌, ◌≤◌, take}
use Rattle.std.specs.Io.KnownBytes.{Consumes}
use Rattle.bridge_capture.proofs.transfer.fill_by_many_reads.Given as goal

abbrev pub invariant-loop-at : goal.invariant-loop-at
invariant-loop-at g l =
    let remaining = g.R.ByteSource.remaining in
    record {
      within : l.at ≤ length l.buf;
      fresh : g.R.ByteSource.has_failed l.fn.source ≡ true → (l.at ≡ 0) × (g.R.ByteSource.has_failed l.source ≡ true);
      sure : g.R.ByteSource.never_fails l.fn.source ≡ true → g.R.ByteSource.never_fails l.source ≡ true;
      taken : Consumes (remaining l.fn.source) (remaining l.source) (take l.at l.buf);
    }

abbrev pub decreases-loop-at : goal.decreases-loop-at
decreases-loop-at g l = length l.initial.buf - l.at
