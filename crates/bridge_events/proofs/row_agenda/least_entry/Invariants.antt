use Rattle.bridge_events.specs.Least.{IsLeast, row_time}
use Rattle.bridge_events.proofs.Rows.{up_to}
use Rattle.bridge_events.proofs.row_agenda.least_entry.Given as goal

abbrev pub invariant-loop-place : goal.invariant-loop-place
invariant-loop-place l = IsLeast (up_to l.place (row_time l.row)) l.best
