use Rattle.std.proofs.Common.{◌≡◌, ◌++◌, take, flat_map, string_bytes}
use Rattle.net_check.specs.Telling.{unlisted_text}
use Rattle.net_check.proofs.warning_lines.push_unlisted_of_plan.Given as goal

abbrev pub invariant-loop-filter : goal.invariant-loop-filter
invariant-loop-filter g l = string_bytes l.text ≡ string_bytes l.initial.text ++ flat_map (unlisted_text l.file l.bridge l.plan) (take l.filter-index l.plan.filters)
