use Rattle.std.proofs.Common.{◌-◌, refl, subst}
use Rattle.std.proofs.lemmas.Option.{slice_get_within}
use Rattle.bridge_events.specs.Least.{IsLeast}
use Rattle.bridge_core.proofs.Heads.{before_at, first_at, head_is, later_at, none_later}
use Rattle.bridge_core.proofs.run.next_reader.Goals as goal

pub overflow_sub-result : goal.overflow_sub-result
overflow_sub-result g c = (head_is (g.H.Agenda.held c.args.heads.now) c.args.lanes.now c.in-Some.port c.in-Some.time c.requires.heads c.in-Some.ensures).from

pub returns-in-Some-clause-place : goal.returns-in-Some-clause-place
returns-in-Some-clause-place g c = let h = head_is (g.H.Agenda.held c.args.heads.now) c.args.lanes.now c.in-Some.port c.in-Some.time c.requires.heads c.in-Some.ensures in slice_get_within c.args.lanes.now (c.in-Some.port - 1) h.lane h.there

pub returns-in-Some-clause-first : goal.returns-in-Some-clause-first
returns-in-Some-clause-first g c = first_at (g.H.Agenda.held c.args.heads.now) c.args.lanes.now c.in-Some.port c.in-Some.time c.requires.heads c.in-Some.ensures

pub returns-in-Some-clause-before : goal.returns-in-Some-clause-before
returns-in-Some-clause-before g c =
    before_at c.args.until c.args.lanes.now c.in-Some.port c.in-Some.time (head_is (g.H.Agenda.held c.args.heads.now) c.args.lanes.now c.in-Some.port c.in-Some.time c.requires.heads c.in-Some.ensures) (c.if-is_earlier.ensures.before refl)

pub returns-in_default-clause-later : goal.returns-in_default-clause-later
returns-in_default-clause-later g c = λ none. later_at (g.H.Agenda.held c.args.heads.now) c.args.until c.args.lanes.now c.in-Some.port c.in-Some.time c.requires.heads c.in-Some.ensures (c.if-is_earlier.ensures.later refl)

pub returns-in_default-2-clause-later : goal.returns-in_default-2-clause-later
returns-in_default-2-clause-later g c = λ none. none_later (g.H.Agenda.held c.args.heads.now) c.args.until c.args.lanes.now c.requires.heads (subst (IsLeast (g.H.Agenda.held c.args.heads.now)) c.in_default.is c.least.ensures)
