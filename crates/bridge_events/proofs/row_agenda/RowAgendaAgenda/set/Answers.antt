use Rattle.std.proofs.Common.{rules}
use Rattle.bridge_events.proofs.row_agenda.RowAgendaAgenda.set.Goals as goal

pub returns : goal.returns
returns c = search rules
