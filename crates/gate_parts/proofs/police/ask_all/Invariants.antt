use Rattle.std.proofs.Common.{◌≡◌, true}
use Rattle.bridge_filter.specs.Plans.{is_listed}
use Rattle.gate_parts.proofs.police.ask_all.Given as goal

-- If the filters have gate 1 and meter 5 at first, they keep both.
abbrev pub invariant-loop-line : goal.invariant-loop-line
invariant-loop-line l = record {
  next : goal.iterator-loop-line.can_next l.line-iterator;
  ends : goal.iterator-loop-line.is_finite l.line-iterator;
  gate : l.has_both ≡ true → is_listed 1 l.police.gates ≡ true;
  meter : l.has_both ≡ true → is_listed 5 l.police.meters ≡ true;
}
