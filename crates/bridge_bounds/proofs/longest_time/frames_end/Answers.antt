use Rattle.std.proofs.Common.{◌≡◌, ◌≤◌, ◌+◌, ◌-◌, ◌*◌, ◌<◌, ℕ, Fits, w64, arith, subst}
use Rattle.bridge_cycle.specs.declared.cyclic_list.TheConstants.{LONGEST_CYCLE}
use Rattle.bridge_port.specs.GateSchedule.{list_opens}
use Rattle.bridge_bounds.proofs.Steps.{ends_after}
use Rattle.bridge_bounds.proofs.Rounds.{ends_soon, fits_soon, window_more}
use Rattle.bridge_bounds.proofs.longest_time.frames_end.Goals as goal

pub list_first_fit-start-requires-clause-from : goal.list_first_fit-start-requires-clause-from
list_first_fit-start-requires-clause-from g c =
    let soon = ends_soon c.args.list.now c.args.class c.args.occ c.loop-done.done c.args.from c.loop-done.end c.requires.lawful c.requires.ever c.requires.occ c.loop-done.invariant.ends in
    let few = c.loop-done.invariant.few in
    let most = c.ranges.count.fits in
    let from = c.requires.from in
    omega (arith, soon, few, most, from)

pub window_frames-frames-requires-clause-start : goal.window_frames-frames-requires-clause-start
window_frames-frames-requires-clause-start g c =
    let soon = ends_soon c.args.list.now c.args.class c.args.occ c.loop-done.done c.args.from c.loop-done.end c.requires.lawful c.requires.ever c.requires.occ c.loop-done.invariant.ends in
    let few = c.loop-done.invariant.few in
    let most = c.ranges.count.fits in
    let from = c.requires.from in
    let near = c.list_first_fit-start.ensures.soon in
    omega (arith, soon, few, most, from, near)

pub overflow_add-end : goal.overflow_add-end
overflow_add-end g c =
    let more = window_more c.args.list.now c.args.class c.args.occ c.loop-done.done c.window_frames-frames.result c.args.from c.loop-done.end c.list_first_fit-start.result c.requires.lawful c.requires.ever c.requires.occ c.window_frames-frames.ensures.some c.loop-done.invariant.ends c.list_first_fit-start.ensures.first c.window_frames-frames.ensures.ends in
    let within = c.window_frames-frames.ensures.within in
    let few = c.loop-done.invariant.few in
    fits_soon (c.list_first_fit-start.result + c.window_frames-frames.result * c.args.occ) c.args.from (c.loop-done.done + c.window_frames-frames.result) c.args.count more.1 (omega (arith, within, few)) c.ranges.count.fits c.requires.from

pub loop-done-preserved : goal.loop-done-preserved
loop-done-preserved g c =
    let more = window_more c.args.list.now c.args.class c.args.occ c.loop-done.done c.window_frames-frames.result c.args.from c.loop-done.end c.list_first_fit-start.result c.requires.lawful c.requires.ever c.requires.occ c.window_frames-frames.ensures.some c.loop-done.invariant.ends c.list_first_fit-start.ensures.first c.window_frames-frames.ensures.ends in
    let within = c.window_frames-frames.ensures.within in
    let few = c.loop-done.invariant.few in
    record { ends = more.0; few = omega (arith, within, few) }

pub returns-clause-begun : goal.returns-clause-begun
returns-clause-begun g c = ends_after (list_opens c.args.list.now c.args.class) c.args.occ c.loop-done.done c.args.from c.loop-done.end c.loop-done.invariant.ends

pub returns-clause-soon : goal.returns-clause-soon
returns-clause-soon g c =
    let soon = ends_soon c.args.list.now c.args.class c.args.occ c.loop-done.done c.args.from c.loop-done.end c.requires.lawful c.requires.ever c.requires.occ c.loop-done.invariant.ends in
    let few = c.loop-done.invariant.few in
    omega (arith, soon, few)
