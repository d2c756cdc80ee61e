use Rattle.std.proofs.Common.{ℕ, Bool, ◌≡◌, ◌≤◌, ◌-◌, ◌+◌, min, max, arith, subst, sym}
use Rattle.bridge_cycle.specs.Fits.{IsFirstFit}
use Rattle.bridge_cycle.specs.declared.cyclic_list.TheConstants.{LONGEST_CYCLE}
use Rattle.bridge_port.specs.GateSchedule.{list_opens}
use Rattle.bridge_bounds.proofs.Lists.{IsListTurn, list_turn}
use Rattle.bridge_bounds.proofs.Waiting.{IsWaited, waited_all, waited_begin, waited_more}
use Rattle.bridge_bounds.proofs.waits.longest_wait.Goals as goal

pub loop-seen-init : goal.loop-seen-init
loop-seen-init g c = waited_begin (list_opens c.args.list.now c.args.class) c.args.occ c.args.from c.args.to c.first_fit_time.result c.requires.some c.requires.phases c.first_fit_time.ensures.first c.first_fit_time.ensures.soon

pub loop-seen-smaller : goal.loop-seen-smaller
loop-seen-smaller g c =
    let turn : IsListTurn c.args.list.now c.args.class c.loop-seen.seen c.turn-seen.result.end = list_turn c.args.list.now c.args.class c.loop-seen.seen c.turn-seen.result c.requires.lawful c.turn-seen.ensures.turn in
    let ends = turn.ends in
    let before = c.loop-seen-test.true in
    omega (arith, ends, before)

pub loop-seen-preserved : goal.loop-seen-preserved
loop-seen-preserved g c =
    let opens : ℕ → Bool = list_opens c.args.list.now c.args.class in
    let turn : IsListTurn c.args.list.now c.args.class c.loop-seen.seen c.turn-seen.result.end = list_turn c.args.list.now c.args.class c.loop-seen.seen c.turn-seen.result c.requires.lawful c.turn-seen.ensures.turn in
    let soon = turn.soon in
    let short = c.requires.lawful.cycle in
    let before = c.loop-seen-test.true in
    let least = c.min.ensures in
    let end = c.turn-seen.result.end in
    let s = c.first_fit_time-in-loop-seen.result in
    let here : c.min-behind.result ≡ min (end - (c.args.occ - 1)) c.args.to = c.min-behind.ensures in
    let first : IsFirstFit opens c.args.occ (min (end - (c.args.occ - 1)) c.args.to) s = subst (λ (i : ℕ). IsFirstFit opens c.args.occ i s) here c.first_fit_time-in-loop-seen.ensures.first in
    let near : s ≤ min (end - (c.args.occ - 1)) c.args.to + LONGEST_CYCLE = subst (λ (i : ℕ). s ≤ i + LONGEST_CYCLE) here c.first_fit_time-in-loop-seen.ensures.soon in
    let next = waited_more opens c.args.occ c.args.from c.args.to c.loop-seen.seen end c.loop-seen.longest s c.loop-seen.invariant c.requires.some c.requires.phases turn.ends (omega (arith, soon, short, before, least)) turn.same first near in
    let same : max c.loop-seen.longest (s - min (end - (c.args.occ - 1)) c.args.to) ≡ c.max-longest.result = sym (subst (λ (i : ℕ). c.max-longest.result ≡ max c.loop-seen.longest (s - i)) here c.max-longest.ensures) in
    subst (IsWaited opens c.args.occ c.args.from c.args.to end) same next

pub returns-clause-longest : goal.returns-clause-longest
returns-clause-longest g c =
    let least = c.min.ensures in
    let cycle = c.cycle.ensures.cycle in
    let all = c.loop-seen-test.false in
    waited_all c.args.list.now c.args.class c.args.occ c.args.from c.args.to c.loop-seen.seen c.loop-seen.longest c.requires.lawful c.requires.ever c.loop-seen.invariant c.requires.some (omega (arith, least, cycle, all))
