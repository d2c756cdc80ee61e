use Rattle.std.proofs.Common.{◌≡◌, ◌≤◌, ◌+◌, ◌-◌, ◌*◌, ℕ, arith, subst}
use Rattle.bridge_port.specs.GateSchedule.{list_opens}
use Rattle.bridge_bounds.specs.Bounds.{FramesEnd}
use Rattle.bridge_bounds.proofs.Steps.{ends_from}
use Rattle.bridge_bounds.proofs.Rounds.{lead_and}
use Rattle.bridge_bounds.proofs.longest_time.frames_duration.Goals as goal

pub returns-then-lead-room-clause-ends : goal.returns-then-lead-room-clause-ends
returns-then-lead-room-clause-ends g c =
    let opens = list_opens c.args.list.now c.args.class in
    let next : ℕ = c.list_first_fit-start.result + c.window_frames-lead.result * c.args.occ in
    let behind : FramesEnd opens c.args.occ c.window_frames-lead.result c.args.from next = ends_from opens c.args.occ c.window_frames-lead.result c.args.from c.list_first_fit-start.result next c.window_frames-lead.ensures.some c.list_first_fit-start.ensures.first c.window_frames-lead.ensures.ends in
    let after = c.list_first_fit-start.ensures.first.after in
    let same : next ≡ c.args.from + (next - c.args.from) = omega (arith, after) in
    subst (FramesEnd opens c.args.occ c.args.room c.args.from) same (subst (λ (i : ℕ). FramesEnd opens c.args.occ i c.args.from next) c.if-lead-room.true behind)

pub overflow_sub-result-2 : goal.overflow_sub-result-2
overflow_sub-result-2 g c =
    let all = lead_and c.args.list.now c.args.class c.args.occ c.args.room c.window_frames-lead.result c.args.from c.list_first_fit-start.result c.end_after_rounds.result c.requires.lawful c.requires.ever c.requires.occ c.window_frames-lead.ensures.some c.window_frames-lead.ensures.within c.list_first_fit-start.ensures.first c.window_frames-lead.ensures.ends c.end_after_rounds.ensures in
    all.1

pub returns-clause-ends : goal.returns-clause-ends
returns-clause-ends g c =
    let all = lead_and c.args.list.now c.args.class c.args.occ c.args.room c.window_frames-lead.result c.args.from c.list_first_fit-start.result c.end_after_rounds.result c.requires.lawful c.requires.ever c.requires.occ c.window_frames-lead.ensures.some c.window_frames-lead.ensures.within c.list_first_fit-start.ensures.first c.window_frames-lead.ensures.ends c.end_after_rounds.ensures in
    let later = all.1 in
    let same : c.end_after_rounds.result ≡ c.args.from + (c.end_after_rounds.result - c.args.from) = omega (arith, later) in
    subst (FramesEnd (list_opens c.args.list.now c.args.class) c.args.occ c.args.room c.args.from) same all.0

pub returns-clause-bounded : goal.returns-clause-bounded
returns-clause-bounded g c =
    let all = lead_and c.args.list.now c.args.class c.args.occ c.args.room c.window_frames-lead.result c.args.from c.list_first_fit-start.result c.end_after_rounds.result c.requires.lawful c.requires.ever c.requires.occ c.window_frames-lead.ensures.some c.window_frames-lead.ensures.within c.list_first_fit-start.ensures.first c.window_frames-lead.ensures.ends c.end_after_rounds.ensures in
    let soon = all.2 in
    omega (arith, soon)
