use Rattle.std.proofs.Common.{rules}
use Rattle.bridge_events.proofs.agenda.earlier_entry.Goals as goal

pub returns-then-b-a : goal.returns-then-b-a
returns-then-b-a c = search rules
