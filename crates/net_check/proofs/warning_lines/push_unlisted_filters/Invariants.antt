use Rattle.std.proofs.Common.{◌≡◌, ◌++◌, drop, string_bytes}
use Rattle.net_check.specs.Telling.{unlisted_filters}
use Rattle.net_check.proofs.warning_lines.push_unlisted_filters.Given as goal

abbrev pub invariant-loop-b : goal.invariant-loop-b
invariant-loop-b g l = string_bytes l.text ++ unlisted_filters l.file l.b (drop l.b l.plans) ≡ string_bytes l.initial.text ++ unlisted_filters l.file 0 l.plans
