use Rattle.bridge_events.specs.Least.{IsLeast}
use Rattle.bridge_events.specs.Tree.{tree_time}
use Rattle.bridge_events.proofs.Rows.{up_to}
use Rattle.bridge_events.proofs.tree_agenda.least_late_entry.Given as goal

abbrev pub invariant-loop-place : goal.invariant-loop-place
invariant-loop-place l = IsLeast (up_to l.place (tree_time l.keys l.times)) l.best
