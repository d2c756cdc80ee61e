use Rattle.std.proofs.Common.{◌≡◌, ◌≤◌, ◌+◌, ◌-◌, ◌*◌, ◌<◌, ℕ, Fits, w64, arith, subst}
use Rattle.bridge_cycle.specs.declared.cyclic_list.TheConstants.{LONGEST_CYCLE}
use Rattle.bridge_port.specs.GateSchedule.{list_opens}
use Rattle.bridge_bounds.proofs.Steps.{ends_from}
use Rattle.bridge_bounds.proofs.Rounds.{ends_soon, fits_soon, window_more}
use Rattle.bridge_bounds.proofs.longest_time.repeating_round.Goals as goal

at_most : (from : ℕ) → from ≤ 1100000000000000000 → from ≤ 8000000000000000000
at_most from h = omega (arith, h)

pub loop-done-init : goal.loop-done-init
loop-done-init g c =
    let window = c.window_frames-done.ensures in
    record {
      ends = ends_from (list_opens c.args.list.now c.args.class) c.args.occ c.window_frames-done.result c.args.from c.list_first_fit-first.result (c.list_first_fit-first.result + c.window_frames-done.result * c.args.occ) window.some c.list_first_fit-first.ensures.first window.ends;
      begun = omega arith;
      some = window.some;
      few = window.within;
    }

pub list_first_fit-start-requires-clause-from : goal.list_first_fit-start-requires-clause-from
list_first_fit-start-requires-clause-from g c =
    let soon = ends_soon c.args.list.now c.args.class c.args.occ c.loop-done.done c.args.from c.loop-done.end c.requires.lawful c.requires.ever c.requires.occ c.loop-done.invariant.ends in
    let few = c.loop-done.invariant.few in
    let most = c.ranges.room.fits in
    let from = c.requires.from in
    omega (arith, soon, few, most, from)

pub window_frames-frames-requires-clause-start : goal.window_frames-frames-requires-clause-start
window_frames-frames-requires-clause-start g c =
    let soon = ends_soon c.args.list.now c.args.class c.args.occ c.loop-done.done c.args.from c.loop-done.end c.requires.lawful c.requires.ever c.requires.occ c.loop-done.invariant.ends in
    let few = c.loop-done.invariant.few in
    let most = c.ranges.room.fits in
    let from = c.requires.from in
    let near = c.list_first_fit-start.ensures.soon in
    omega (arith, soon, few, most, from, near)

pub overflow_add-end-in-loop-done : goal.overflow_add-end-in-loop-done
overflow_add-end-in-loop-done g c =
    let more = window_more c.args.list.now c.args.class c.args.occ c.loop-done.done c.window_frames-frames.result c.args.from c.loop-done.end c.list_first_fit-start.result c.requires.lawful c.requires.ever c.requires.occ c.window_frames-frames.ensures.some c.loop-done.invariant.ends c.list_first_fit-start.ensures.first c.window_frames-frames.ensures.ends in
    let within = c.window_frames-frames.ensures.within in
    let few = c.loop-done.invariant.few in
    fits_soon (c.list_first_fit-start.result + c.window_frames-frames.result * c.args.occ) c.args.from (c.loop-done.done + c.window_frames-frames.result) c.args.room more.1 (omega (arith, within, few)) c.ranges.room.fits (at_most c.args.from c.requires.from)

pub loop-done-preserved : goal.loop-done-preserved
loop-done-preserved g c =
    let more = window_more c.args.list.now c.args.class c.args.occ c.loop-done.done c.window_frames-frames.result c.args.from c.loop-done.end c.list_first_fit-start.result c.requires.lawful c.requires.ever c.requires.occ c.window_frames-frames.ensures.some c.loop-done.invariant.ends c.list_first_fit-start.ensures.first c.window_frames-frames.ensures.ends in
    let within = c.window_frames-frames.ensures.within in
    let few = c.loop-done.invariant.few in
    let some = c.loop-done.invariant.some in
    let begun = c.loop-done.invariant.begun in
    let after = c.list_first_fit-start.ensures.first.after in
    record { ends = more.0; begun = omega (arith, begun, after); some = omega (arith, some); few = omega (arith, within, few) }
