use Rattle.std.proofs.Common.{◌≡◌, ◌++◌, take, flat_map, string_bytes}
use Rattle.net_check.specs.Telling.{loop_line}
use Rattle.net_check.proofs.warning_lines.push_loops.Given as goal

abbrev pub invariant-loop-row : goal.invariant-loop-row
invariant-loop-row g l = string_bytes l.text ≡ string_bytes l.initial.text ++ flat_map (loop_line l.bridges) (take l.row-index l.rows)
