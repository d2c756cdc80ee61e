use Rattle.std.proofs.Common.{◌+◌, ℕ, Bool, max, arith, subst}
use Rattle.bridge_port.specs.GateSchedule.{list_opens}
use Rattle.bridge_groups.specs.IntervalWork.{LeavesBy}
use Rattle.bridge_groups.proofs.LeaveTimes.{leaves_from_earlier, leaves_later}
use Rattle.bridge_groups.proofs.FitTurns.{list_has_fits}
use Rattle.bridge_groups.proofs.opening_bound.add_interval.Goals as goal

pub returns-clause-covered : goal.returns-clause-covered
returns-clause-covered g c t p q enough =
    let opens : ℕ → Bool = list_opens c.args.list.now c.args.class in
    let some = list_has_fits c.args.list.now c.args.class c.args.occ c.requires.lawful c.requires.ever in
    let work = c.turn_work-work.ensures.work in
    let last = c.last-last.ensures in
    let latest = c.max.ensures in
    let longest = c.max-2.ensures in
    let rest = c.saturating_sub.ensures in
    let carry = c.max-3.ensures in
    let clear : ℕ = c.args.opening.now.start + c.args.carry in
    let delay = leaves_later opens c.args.occ c.args.least c.turn_work-work.result some (max clear t) (t + c.in_ok-longest.longest) (t + c.max-2.result) (omega (arith, longest)) (c.in_ok-longest.ensures t p (omega (arith, q, last))) in
    let gone = leaves_later opens c.args.occ c.args.least c.turn_work-work.result some (max clear t) c.in_ok-gone.gone (c.args.next + c.max-3.result) (omega (arith, carry, rest)) (leaves_from_earlier opens c.args.occ c.args.least c.turn_work-work.result some (max clear t) c.max.result c.in_ok-gone.gone (omega (arith, latest, q, last)) c.in_ok-gone.ensures.leaves) in (
      subst (λ (i : ℕ). LeavesBy opens c.args.occ c.args.least i (max clear t) (t + c.max-2.result)) work delay,
      subst (λ (i : ℕ). LeavesBy opens c.args.occ c.args.least i (max clear t) (c.args.next + c.max-3.result)) work gone,
    )
