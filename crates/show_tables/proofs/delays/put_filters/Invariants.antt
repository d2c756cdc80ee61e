use Rattle.std.proofs.Common.{length}
use Rattle.show_tables.proofs.Rising.{Reaches}
use Rattle.show_tables.proofs.delays.put_filters.Given as goal

abbrev pub invariant-loop-first : goal.invariant-loop-first
invariant-loop-first g l = Reaches l.accepted l.initial.left l.left l.fn.text l.text

abbrev pub decreases-loop-first : goal.decreases-loop-first
decreases-loop-first g l = length l.left
