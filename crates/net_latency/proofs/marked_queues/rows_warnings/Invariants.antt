use Rattle.std.proofs.Common.{◌≡◌, take, string_bytes}
use Rattle.net_latency.specs.SharedWarnings.{shared_warnings}
use Rattle.net_latency.proofs.marked_queues.rows_warnings.Given as goal

abbrev pub invariant-loop-row : goal.invariant-loop-row
invariant-loop-row g l = string_bytes l.text ≡ shared_warnings (take l.row-index l.rows)
