use Rattle.std.proofs.Common.{◌≡◌, ◌+◌, ◌-◌, ◌*◌, ◌/◌, ◌%◌, ◌<◌, ◌≤◌, subst, ℕ, List, Some, true, drop, length, arith, ap, sym, ◌∙◌}
use Rattle.std.specs.Prelude.{Vec, slice_index_or}
use Rattle.std.proofs.lemmas.List.{take_rest}
use Rattle.bridge_cycle.specs.declared.run.Run.TheVariants.{Never}
use Rattle.bridge_cycle.specs.declared.run.Run.TheVariants as run
use Rattle.bridge_port.specs.GateSchedule.{list_can_fit, list_opens}
use Rattle.bridge_cycle.specs.Fits.{IsFirstFit}
use Rattle.bridge_port.specs.Spans.{HasSpans, span_end, fit_in_spans, class_spans, open_or_stopped}
use Rattle.bridge_port.specs.declared.spans.OpenSpan.{OpenSpan}
use Rattle.bridge_port.proofs.Fitting.{first_of_always, first_of_cycle, spans_is}
use Rattle.bridge_port.proofs.spans.fit_until_stop.Goals as goal

pub returns-in-Always-clause-fit : goal.returns-in-Always-clause-fit
returns-in-Always-clause-fit g c =
    let is = c.in-Always.is in
    let always : slice_index_or c.args.spans.now.runs c.args.class Never ≡ run.Always = cc in
    let all : (n : ℕ) → list_can_fit c.args.list.now c.args.class n ≡ true = λ n. (c.requires.spans.allow c.args.class c.requires.class n).0 (rw always tt) in
    first_of_always c.args.list.now c.args.class c.args.occ c.args.from c.args.stop c.cycle-cycle.ensures.lawful all

pub returns-in-Some : goal.returns-in-Some
returns-in-Some g c =
    let class = c.args.class in
    let from = c.args.from in
    let cycle = c.cycle-cycle.result in
    let place = c.find_index-place.result in
    let xs = c.as_slice-own.result.now in
    let vs = c.args.spans.now.each.items in
    let below : class < length vs = (let eight = c.requires.spans.eight in let l = c.requires.class in omega (arith, eight, l)) in
    let own : xs ≡ class_spans vs class = c.as_slice-own.ensures.value ∙ (ap (λ (v : Vec OpenSpan _). v.items) c.index.ensures ∙ sym (spans_is vs class _ below)) in
    let has : HasSpans (list_opens c.args.list.now class) xs = rw own (c.requires.spans.each class c.requires.class) in
    let some : 0 < c.args.occ = (let none = c.if-occ-eq0.false in grind (arith, none)) in
    let into : c.phase_in_cycle-into.result ≡ from % cycle = c.phase_in_cycle-into.ensures in
    let of_place : fit_in_spans (drop place xs) c.phase_in_cycle-into.result c.args.occ (c.args.stop - (from - c.phase_in_cycle-into.result)) ≡ Some c.in-Some.t = ap (λ (ys : List OpenSpan). fit_in_spans ys c.phase_in_cycle-into.result c.args.occ (c.args.stop - (from - c.phase_in_cycle-into.result))) (sym (take_rest xs place)) ∙ sym c.in-Some.ensures.fit in
    let found : fit_in_spans (drop place xs) (from % cycle) c.args.occ (c.args.stop - (from - from % cycle)) ≡ Some c.in-Some.t = subst (λ (n : ℕ). fit_in_spans (drop place xs) n c.args.occ (c.args.stop - (from - n)) ≡ Some c.in-Some.t) into of_place in
    let behind : 0 < place → span_end xs (place - 1) ≤ from % cycle = subst (λ (n : ℕ). 0 < place → span_end xs (place - 1) ≤ n) into c.find_index-place.ensures.behind in
    let near = c.in-Some.ensures.near in
    let whole : from ≡ from % cycle + from / cycle * cycle = grind arith in
    record {
      fit = subst (λ (n : ℕ). IsFirstFit (open_or_stopped (list_opens c.args.list.now class) c.args.stop) c.args.occ from (c.in-Some.t + (from - n))) (sym into) (first_of_cycle c.args.list.now class xs cycle place from c.args.occ c.args.stop c.in-Some.t c.cycle-cycle.ensures.cycle c.cycle-cycle.ensures.lawful has some c.requires.stop c.find_index-place.ensures.within behind found);
      near = omega (arith, near, whole, into);
    }
