use Rattle.std.proofs.Common.{sym, Some, ◌≡◌, subst, ◌∙◌, ap}
use Rattle.std.specs.Prelude.{slice_index_or}
use Rattle.bridge_cycle.specs.Fits.{Fits, IsFirstFit}
use Rattle.bridge_cycle.specs.declared.run.Run.TheVariants.{Never}
use Rattle.bridge_cycle.specs.declared.run.Run.TheVariants as run
use Rattle.bridge_port.specs.GateSchedule.{KeepsTurn, GateSchedule, gate_schedule, opens, HasLawfulLists}
use Rattle.bridge_port.specs.Spans.{AreOptionalSpans}
use Rattle.bridge_port.proofs.Opening.{ever_soon, first_at, first_at_once, first_soon, fits_at, made_is}
use Rattle.bridge_port.proofs.transmission_gates.TransmissionGates.earliest_fit.Goals as goal

pub returns-in-Always-clause-first : goal.returns-in-Always-clause-first
returns-in-Always-clause-first g c =
    let is = c.in-Always.is in
    let always : slice_index_or c.self.inside.kept.runs c.args.class Never ≡ run.Always = cc in
    let first = first_at_once (gate_schedule c.self.inside.list) c.self.inside.kept.runs c.args.class c.args.occ c.args.from c.self.invariant.runs c.requires.class always in
    subst (λ (o : GateSchedule). IsFirstFit (opens o c.args.class) c.args.occ c.args.from c.args.from) c.self.view_is first

pub fits_in_kept_turn-requires : goal.fits_in_kept_turn-requires
fits_in_kept_turn-requires g c = record {
  class = c.requires.class;
  occ = c.requires.occ;
  from = c.requires.from;
  kept = subst (λ o. KeepsTurn o c.self.inside.turn) c.in-Some.is c.self.invariant.turn;
  lawful = made_is c.in-Some.list (subst HasLawfulLists (ap gate_schedule c.in-Some.is) c.self.invariant.runs.made);
}

pub search_fit-requires : goal.search_fit-requires
search_fit-requires g c =
    let list = c.in-Some.list in
    let is : c.args.self.now ≡ gate_schedule (Some list) = sym c.self.view_is ∙ ap gate_schedule c.in-Some.is in
    let made : HasLawfulLists c.args.self.now = subst HasLawfulLists c.self.view_is c.self.invariant.runs.made in
    let soon = ever_soon c.args.self.now c.args.class c.args.occ c.args.from made c.requires.ever in
    let fits = subst (λ (o : GateSchedule). Fits (opens o c.args.class) c.args.occ soon.0) is soon.3 in
    record {
      class = c.requires.class;
      occ = c.requires.occ;
      from = c.requires.from;
      turn = subst (λ o. KeepsTurn o c.self.inside.turn) c.in-Some.is c.self.invariant.turn;
      lawful = made_is list (subst HasLawfulLists (ap gate_schedule c.in-Some.is) c.self.invariant.runs.made);
      kept = subst (λ o. AreOptionalSpans o c.self.inside.kept.old.runs c.self.inside.kept.old.each.items c.self.inside.kept.new.runs c.self.inside.kept.new.each.items) c.in-Some.is c.self.invariant.spans;
      some = (soon.0, soon.1, soon.2, fits_at list c.args.class c.args.occ soon.0 fits);
    }

pub invariant_of-self : goal.invariant_of-self
invariant_of-self g c = record {
  runs = c.self.invariant.runs;
  spans = c.self.invariant.spans;
  turn = subst (λ o. KeepsTurn o c.search_fit.new.turn) (sym c.in-Some.is) c.search_fit.ensures.turn;
}

pub returns-then-fits_in_kept_turn-clause-first : goal.returns-then-fits_in_kept_turn-clause-first
returns-then-fits_in_kept_turn-clause-first g c =
    let is : c.args.self.now ≡ gate_schedule (Some c.in-Some.list) = sym c.self.view_is ∙ ap gate_schedule c.in-Some.is in
    let first = first_at c.in-Some.list c.args.class c.args.occ c.args.from c.args.from (c.fits_in_kept_turn.ensures.first c.if-fits_in_kept_turn.true) in
    subst (λ (o : GateSchedule). IsFirstFit (opens o c.args.class) c.args.occ c.args.from c.args.from) (sym is) first

pub returns-else-fits_in_kept_turn-clause-first : goal.returns-else-fits_in_kept_turn-clause-first
returns-else-fits_in_kept_turn-clause-first g c =
    let is : c.args.self.now ≡ gate_schedule (Some c.in-Some.list) = sym c.self.view_is ∙ ap gate_schedule c.in-Some.is in
    let first = first_at c.in-Some.list c.args.class c.args.occ c.args.from c.search_fit.result c.search_fit.ensures.first in
    subst (λ (o : GateSchedule). IsFirstFit (opens o c.args.class) c.args.occ c.args.from c.search_fit.result) (sym is) first

pub returns-else-fits_in_kept_turn-clause-soon : goal.returns-else-fits_in_kept_turn-clause-soon
returns-else-fits_in_kept_turn-clause-soon g c =
    let made : HasLawfulLists c.args.self.now = subst HasLawfulLists c.self.view_is c.self.invariant.runs.made in
    let soon = ever_soon c.args.self.now c.args.class c.args.occ c.args.from made c.requires.ever in
    first_soon _ c.args.occ c.args.from c.search_fit.result soon.0 (returns-else-fits_in_kept_turn-clause-first g c) soon.1 soon.2 soon.3
