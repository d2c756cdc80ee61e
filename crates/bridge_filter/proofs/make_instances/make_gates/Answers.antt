use Rattle.std.proofs.Common.{◌≡◌, ◌∷◌, []}
use Rattle.std.specs.Vec.Iter.{into_iter_items, into_iter_len}
use Rattle.bridge_gate.specs.Schedules.{has_valid_priorities}
use Rattle.bridge_filter.specs.Steps.{IsNewGate}
use Rattle.bridge_filter.proofs.Made.{taken_more, taken_all, made_taken, passes_taken, left_more, none_left}
use Rattle.bridge_filter.proofs.make_instances.make_gates.Goals as goal

pub new-requires : goal.new-requires
new-requires g c =
    let items = into_iter_items c.loop-number.number-iterator in
    let left = into_iter_items c.next.new.self in
    let taken = c.loop-number.yielded in
    let all = c.args.plans.items in
    let inv = c.loop-number.invariant in
    let e : items ≡ (c.in-Some.number, c.in-Some.plan) ∷ left = c.in-Some.ensures.steps.0 in
    passes_taken (λ x. has_valid_priorities x.1.schedule) taken items (c.in-Some.number, c.in-Some.plan) left all inv.whole e c.requires.priorities

pub loop-number-preserved : goal.loop-number-preserved
loop-number-preserved g c =
    let items = into_iter_items c.loop-number.number-iterator in
    let left = into_iter_items c.next.new.self in
    let taken = c.loop-number.yielded in
    let all = c.args.plans.items in
    let inv = c.loop-number.invariant in
    let e : items ≡ (c.in-Some.number, c.in-Some.plan) ∷ left = c.in-Some.ensures.steps.0 in
    record {
      whole = taken_more taken items (c.in-Some.number, c.in-Some.plan) left all inv.whole e;
      left = left_more (into_iter_len c.loop-number.number-iterator) (into_iter_len c.next.new.self) items left (c.in-Some.number, c.in-Some.plan) inv.left e c.in-Some.ensures.steps.1;
      made = made_taken IsNewGate taken items left all c.loop-number.made.entries c.insert_instance.new.made.entries c.in-Some.number c.in-Some.plan c.new.result inv.whole e c.requires.distinct c.in_ok-insert_instance.ensures.updates (record { stands = c.new.ensures.stands; earliest = c.new.ensures.earliest }) inv.made;
    }

pub returns : goal.returns
returns g c =
    let inv = c.loop-number.invariant in
    let items = into_iter_items c.loop-number.number-iterator in
    let none : items ≡ [] = none_left (into_iter_len c.loop-number.number-iterator) items inv.left c.in-None.ensures.steps.0 in
    rw (taken_all c.loop-number.yielded items c.args.plans.items inv.whole none) inv.made
