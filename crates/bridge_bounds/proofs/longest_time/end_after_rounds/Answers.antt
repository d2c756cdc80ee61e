use Rattle.std.proofs.Common.{◌≡◌, ◌≤◌, ◌+◌, ◌-◌, ◌*◌, ◌/◌, ◌%◌, ◌<◌, ℕ, Fits, w64, arith, subst}
use Rattle.bridge_cycle.specs.declared.cyclic_list.TheConstants.{LONGEST_CYCLE}
use Rattle.bridge_port.specs.GateSchedule.{list_opens}
use Rattle.bridge_bounds.specs.Bounds.{FramesEnd}
use Rattle.bridge_bounds.proofs.Steps.{ends_after, first_rises}
use Rattle.bridge_bounds.proofs.Rounds.{ends_join, ends_soon, list_rounds, rounds_and}
use Rattle.bridge_bounds.proofs.longest_time.end_after_rounds.Goals as goal

small : (e x f room : ℕ) → e + x ≤ f + room * (2 * LONGEST_CYCLE) → f ≤ 1100000000000000000 → room < 65536 → e + x ≤ 8000000000000000000
small e x f room h k l = omega (arith, h, k, l)

fits_part : (e x : ℕ) → e + x ≤ 8000000000000000000 → Fits w64 x
fits_part e x h = omega (arith, h)

fits_sum : (e x : ℕ) → e + x ≤ 8000000000000000000 → Fits w64 (e + x)
fits_sum e x h = omega (arith, h)

pub list_first_fit-requires-clause-from : goal.list_first_fit-requires-clause-from
list_first_fit-requires-clause-from g c =
    let soon = ends_soon c.args.list.now c.args.class c.args.occ c.args.done c.args.from c.args.end c.requires.lawful c.requires.ever c.requires.occ c.requires.ends in
    let few = c.ranges.done.fits in
    let from = c.requires.from in
    omega (arith, soon, few, from)

pub overflow_sub-round : goal.overflow_sub-round
overflow_sub-round g c =
    let opens = list_opens c.args.list.now c.args.class in
    let later = ends_after opens c.args.occ c.args.done c.args.from c.args.end c.requires.ends in
    first_rises opens c.args.occ c.args.occ c.args.from c.args.end c.list_first_fit-2.result c.list_first_fit.result (omega arith) later c.list_first_fit-2.ensures.first c.list_first_fit.ensures.first

pub frames_end-requires-clause-from : goal.frames_end-requires-clause-from
frames_end-requires-clause-from g c =
    let soon = ends_soon c.args.list.now c.args.class c.args.occ c.args.done c.args.from c.args.end c.requires.lawful c.requires.ever c.requires.occ c.requires.ends in
    let few = c.ranges.done.fits in
    let from = c.requires.from in
    omega (arith, soon, few, from)

pub returns-then-round-cycle-ne0 : goal.returns-then-round-cycle-ne0
returns-then-round-cycle-ne0 g c =
    let opens = list_opens c.args.list.now c.args.class in
    let within = c.requires.within in
    let all : c.args.done + (c.args.room - c.args.done) ≡ c.args.room = omega (arith, within) in
    let joined = ends_join opens c.args.occ c.args.done (c.args.room - c.args.done) c.args.from c.args.end c.frames_end.result c.requires.ends c.frames_end.ensures.ends in
    subst (λ (i : ℕ). FramesEnd opens c.args.occ i c.args.from c.frames_end.result) all joined

pub overflow_mul-rounds : goal.overflow_mul-rounds
overflow_mul-rounds g c =
    let round = c.list_first_fit.result - c.list_first_fit-2.result in
    let even : round % c.args.list.now.cycle ≡ 0 = subst (λ (n : ℕ). round % n ≡ 0) c.cycle-cycle.ensures.cycle c.if-round-cycle-ne0.false in
    let both = list_rounds c.args.list.now c.args.class c.args.occ c.args.room c.args.done c.args.from c.args.end c.list_first_fit-2.result c.list_first_fit.result c.requires.lawful c.requires.ever c.requires.occ c.requires.some c.requires.within c.requires.ends c.list_first_fit-2.ensures.first c.list_first_fit.ensures.first even in
    let less = small c.args.end ((c.args.room - c.args.done) / c.args.done * round) c.args.from c.args.room both.1 c.requires.from c.ranges.room.fits in
    fits_part c.args.end ((c.args.room - c.args.done) / c.args.done * round) less

pub overflow_add-end : goal.overflow_add-end
overflow_add-end g c =
    let round = c.list_first_fit.result - c.list_first_fit-2.result in
    let even : round % c.args.list.now.cycle ≡ 0 = subst (λ (n : ℕ). round % n ≡ 0) c.cycle-cycle.ensures.cycle c.if-round-cycle-ne0.false in
    let both = list_rounds c.args.list.now c.args.class c.args.occ c.args.room c.args.done c.args.from c.args.end c.list_first_fit-2.result c.list_first_fit.result c.requires.lawful c.requires.ever c.requires.occ c.requires.some c.requires.within c.requires.ends c.list_first_fit-2.ensures.first c.list_first_fit.ensures.first even in
    let less = small c.args.end ((c.args.room - c.args.done) / c.args.done * round) c.args.from c.args.room both.1 c.requires.from c.ranges.room.fits in
    fits_sum c.args.end ((c.args.room - c.args.done) / c.args.done * round) less

pub frames_end-requires-2-clause-from : goal.frames_end-requires-2-clause-from
frames_end-requires-2-clause-from g c =
    let round = c.list_first_fit.result - c.list_first_fit-2.result in
    let even : round % c.args.list.now.cycle ≡ 0 = subst (λ (n : ℕ). round % n ≡ 0) c.cycle-cycle.ensures.cycle c.if-round-cycle-ne0.false in
    let both = list_rounds c.args.list.now c.args.class c.args.occ c.args.room c.args.done c.args.from c.args.end c.list_first_fit-2.result c.list_first_fit.result c.requires.lawful c.requires.ever c.requires.occ c.requires.some c.requires.within c.requires.ends c.list_first_fit-2.ensures.first c.list_first_fit.ensures.first even in
    let less = small c.args.end ((c.args.room - c.args.done) / c.args.done * round) c.args.from c.args.room both.1 c.requires.from c.ranges.room.fits in
    less

pub returns : goal.returns
returns g c =
    let round = c.list_first_fit.result - c.list_first_fit-2.result in
    let even : round % c.args.list.now.cycle ≡ 0 = subst (λ (n : ℕ). round % n ≡ 0) c.cycle-cycle.ensures.cycle c.if-round-cycle-ne0.false in
    let both = list_rounds c.args.list.now c.args.class c.args.occ c.args.room c.args.done c.args.from c.args.end c.list_first_fit-2.result c.list_first_fit.result c.requires.lawful c.requires.ever c.requires.occ c.requires.some c.requires.within c.requires.ends c.list_first_fit-2.ensures.first c.list_first_fit.ensures.first even in
    rounds_and (list_opens c.args.list.now c.args.class) c.args.occ c.args.room c.args.done c.args.from (c.args.end + (c.args.room - c.args.done) / c.args.done * round) c.frames_end-2.result c.requires.some c.requires.within both.0 c.frames_end-2.ensures.ends
