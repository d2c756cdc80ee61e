use Rattle.std.proofs.Common.{◌≡◌, true, All}
use Rattle.bridge_gate.specs.Schedules.{is_valid_priority}
use Rattle.toml.specs.View.{table_view}
use Rattle.bridge_config.specs.Sections as sections
use Rattle.bridge_config.proofs.Listed.{listed}
use Rattle.bridge_config.proofs.Taken.{at_first, goes_on, goes_out}
use Rattle.bridge_config.proofs.gates.read_gate_lists.Goals as goal

pub gate_schedule-requires-clause-old : goal.gate_schedule-requires-clause-old
gate_schedule-requires-clause-old g c x is = record {
  lawful = c.in_ok-old.ensures.lawful x is;
  priorities = listed (λ es. All (λ e. is_valid_priority e.0.ipv ≡ true) es) c.in_ok-first.first.entries (λ v. v.items) c.in_ok-old.old x is c.in_ok-old.ensures.entries c.in_ok-first.ensures.priorities;
}

pub returns-in_err-first-clause-reads : goal.returns-in_err-first-clause-reads
unfolding sections.read_gate_lists
returns-in_err-first-clause-reads g c =
    let read = at_first (sections.read_gate_lists c.args.change c.args.index (table_view c.args.table.now)) in
    goes_out _ _ _ _ _ c.in_err-first.ensures.reads c.from_residual.ensures.1 read

pub returns-in_err-next-clause-reads : goal.returns-in_err-next-clause-reads
unfolding sections.read_gate_lists
returns-in_err-next-clause-reads g c =
    let read = at_first (sections.read_gate_lists c.args.change c.args.index (table_view c.args.table.now)) in
    let read = goes_on _ c.in_ok-first.ensures.reads read in
    goes_out _ _ _ _ _ c.in_err-next.ensures.reads c.from_residual-in_err-next.ensures.1 read

pub returns-in_err-old-clause-reads : goal.returns-in_err-old-clause-reads
unfolding sections.read_gate_lists
returns-in_err-old-clause-reads g c =
    let read = at_first (sections.read_gate_lists c.args.change c.args.index (table_view c.args.table.now)) in
    let read = goes_on _ c.in_ok-first.ensures.reads read in
    let read = goes_on _ c.in_ok-next.ensures.reads read in
    goes_out _ _ _ _ _ c.in_err-old.ensures.reads c.from_residual-in_err-old.ensures.1 read

pub returns-in_err-new-clause-reads : goal.returns-in_err-new-clause-reads
unfolding sections.read_gate_lists
returns-in_err-new-clause-reads g c =
    let read = at_first (sections.read_gate_lists c.args.change c.args.index (table_view c.args.table.now)) in
    let read = goes_on _ c.in_ok-first.ensures.reads read in
    let read = goes_on _ c.in_ok-next.ensures.reads read in
    let read = goes_on _ c.in_ok-old.ensures.reads read in
    goes_out _ _ _ _ _ c.in_err-new.ensures.reads c.from_residual-in_err-new.ensures.1 read

pub returns-clause-reads : goal.returns-clause-reads
unfolding sections.read_gate_lists
returns-clause-reads g c =
    let read = at_first (sections.read_gate_lists c.args.change c.args.index (table_view c.args.table.now)) in
    let read = goes_on _ c.in_ok-first.ensures.reads read in
    let read = goes_on _ c.in_ok-next.ensures.reads read in
    let read = goes_on _ c.in_ok-old.ensures.reads read in
    let read = goes_on _ c.in_ok-new.ensures.reads read in
    rw c.gate_schedule.ensures.lists read.stands
