use Rattle.std.proofs.Common.{◌≡◌, ◌++◌, take, string_bytes}
use Rattle.net_latency.specs.SharedLines.{shared_text}
use Rattle.net_latency.proofs.shared_lines.push_shared_text.Given as goal

abbrev pub invariant-loop-row : goal.invariant-loop-row
invariant-loop-row g l = string_bytes l.text ≡ string_bytes l.fn.text ++ shared_text (take l.row-index l.rows)
