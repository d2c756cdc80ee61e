use Rattle.std.proofs.Common.{◌≡◌, take, string_bytes}
use Rattle.net_latency.specs.Printing.{bounds_text}
use Rattle.net_latency.proofs.printing.bounds_text.Given as goal

abbrev pub invariant-loop-row : goal.invariant-loop-row
invariant-loop-row g l = string_bytes l.text ≡ bounds_text (take l.row-index l.rows)
