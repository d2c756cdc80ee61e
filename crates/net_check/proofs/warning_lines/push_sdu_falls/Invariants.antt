use Rattle.std.proofs.Common.{◌≡◌, ◌++◌, drop, string_bytes}
use Rattle.net_check.specs.Telling.{sdu_falls}
use Rattle.net_check.proofs.warning_lines.push_sdu_falls.Given as goal

abbrev pub invariant-loop-i : goal.invariant-loop-i
invariant-loop-i g l = string_bytes l.text ++ sdu_falls l.plans l.i (drop l.i l.streams) ≡ string_bytes l.initial.text ++ sdu_falls l.plans 0 l.streams
