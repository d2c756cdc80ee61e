use Rattle.std.proofs.Common.{◌≡◌, ◌≤◌, ◌*◌}
use Rattle.gate_parts.proofs.benches.filter.count_passes.Given as goal

-- The next frame's time is at least the earliest allowed time, and the filters have judged one frame for each iteration.
abbrev pub invariant-loop-call : goal.invariant-loop-call
invariant-loop-call l = (l.police.earliest ≤ l.call * 700) × (l.police.calls ≡ l.call)
