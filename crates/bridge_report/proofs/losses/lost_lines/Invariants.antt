use Rattle.std.proofs.Common.{take}
use Rattle.std.specs.Prelude.{flat_map}
use Rattle.bridge_text.specs.Growth.{HasGrown}
use Rattle.bridge_report.specs.Losses.{lost_lines_of}
use Rattle.bridge_report.proofs.losses.lost_lines.Given as goal

abbrev pub invariant-loop-filter : goal.invariant-loop-filter
invariant-loop-filter g l = HasGrown l.initial.text (flat_map (λ f. lost_lines_of f.0 f.1) (take l.filter-index l.filter-items)) l.text
