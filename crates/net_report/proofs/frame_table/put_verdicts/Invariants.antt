use Rattle.std.proofs.Common.{◌≡◌, ◌+◌, ℕ, List, Option, length}
use Rattle.bridge_text.specs.Growth.{HasGrown}
use Rattle.net_report.specs.FrameTable.{verdict_lines}
use Rattle.net_report.proofs.frame_table.put_verdicts.Given as goal

abbrev pub invariant-loop-first : goal.invariant-loop-first
invariant-loop-first g l = record {
  lines : (o : Option (List ℕ)) → HasGrown l.text (verdict_lines l.stream l.hop l.roots l.origins l.own l.left) o → HasGrown l.fn.text (verdict_lines l.stream l.hop l.roots l.origins 1 l.verdicts) o;
  place : l.own + length l.left ≡ length l.verdicts + 1;
}

abbrev pub decreases-loop-first : goal.decreases-loop-first
decreases-loop-first g l = length l.left
