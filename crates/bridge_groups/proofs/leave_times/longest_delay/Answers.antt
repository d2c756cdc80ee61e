use Rattle.std.proofs.Common.{◌+◌, ◌-◌, ℕ, Bool, max, arith, subst, sym}
use Rattle.bridge_port.specs.GateSchedule.{list_opens}
use Rattle.bridge_groups.specs.IntervalWork.{LeavesBy}
use Rattle.bridge_groups.proofs.LeaveTimes.{first_delays, leaves_later, more_delays}
use Rattle.bridge_groups.proofs.FitTurns.{list_has_fits}
use Rattle.bridge_groups.proofs.leave_times.longest_delay.Goals as goal

pub loop-run-init : goal.loop-run-init
loop-run-init g c =
    let opens : ℕ → Bool = list_opens c.args.list.now c.args.class in
    let some = list_has_fits c.args.list.now c.args.class c.args.occ c.requires.lawful c.requires.ever in
    let from = c.max-from.ensures in
    let leaves : LeavesBy opens c.args.occ c.args.least c.args.work (max c.args.first c.args.clear) c.in_ok-longest.field-0 = subst (λ (i : ℕ). LeavesBy opens c.args.occ c.args.least c.args.work i c.in_ok-longest.field-0) from c.in_ok-longest.ensures.leaves in
    record {
      some = some;
      bounded = λ t p q. first_delays opens c.args.occ c.args.least c.args.work some c.args.clear c.args.first c.in_ok-longest.field-0 leaves t p (omega (arith, q, from));
      begun = omega arith;
      near = omega arith;
    }

pub loop-run-preserved : goal.loop-run-preserved
loop-run-preserved g c =
    let opens : ℕ → Bool = list_opens c.args.list.now c.args.class in
    let some = c.loop-run.invariant.some in
    let from = c.max-from.ensures in
    let begun = c.loop-run.invariant.begun in
    let near = c.loop-run.invariant.near in
    let before = c.if-seen-last.false in
    let run = c.next_fit_run-run.ensures.run in
    let after = run.first.after in
    let next = c.min-seen.ensures in
    let leaves = c.in_ok-delay.ensures.leaves in
    let late = c.in_ok-delay.ensures.after in
    let there : LeavesBy opens c.args.occ c.args.least c.args.work c.min-seen.result (c.min-seen.result + (c.in_ok-delay.field-0 - c.min-seen.result)) = leaves_later opens c.args.occ c.args.least c.args.work some c.min-seen.result c.in_ok-delay.field-0 (c.min-seen.result + (c.in_ok-delay.field-0 - c.min-seen.result)) (omega (arith, late)) leaves in
    let longest = c.max-longest.ensures in
    record {
      some = some;
      bounded = λ t p q. subst (λ (i : ℕ). LeavesBy opens c.args.occ c.args.least c.args.work (max c.args.clear t) (t + i)) (sym longest)
          (more_delays opens c.args.occ c.args.least c.args.work some c.args.clear c.args.first c.loop-run.seen c.min-seen.result c.loop-run.longest (c.in_ok-delay.field-0 - c.min-seen.result) c.next_fit_run-run.result (omega (arith, from, begun)) (omega (arith, from, begun)) c.loop-run.invariant.bounded run (omega (arith, next)) there t p q);
      begun = omega (arith, next, begun, before, after);
      near = omega (arith, next);
    }
