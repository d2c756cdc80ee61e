use Rattle.std.proofs.Common.{◌≤◌, ◌*◌}
use Rattle.gate_parts.proofs.benches.meter.count_green.Given as goal

-- The meter's time is at most the next frame's time.
abbrev pub invariant-loop-call : goal.invariant-loop-call
invariant-loop-call l = l.meter.buckets.at ≤ l.call * 700
