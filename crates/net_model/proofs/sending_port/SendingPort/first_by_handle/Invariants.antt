use Rattle.std.proofs.Common.{◌≡◌, drop}
use Rattle.net_model.specs.LinkFrames.{possible_handles, frame_pattern}
use Rattle.net_model.specs.FrameSearch.{find_first, frames_by_handle}
use Rattle.net_model.specs.SearchState.{hops}
use Rattle.net_model.proofs.sending_port.SendingPort.first_by_handle.Given as goal

abbrev pub invariant-loop-entry : goal.invariant-loop-entry
invariant-loop-entry g l =
    find_first (frames_by_handle l.self.question l.self.plan.now (hops l.self) l.self.end.port l.port l.priority) (possible_handles (drop l.entry-index l.self.plan.now.streams) l.port l.vid (frame_pattern l.named l.tag))
    ≡ find_first (frames_by_handle l.self.question l.self.plan.now (hops l.self) l.self.end.port l.port l.priority) (possible_handles l.self.plan.now.streams l.port l.vid (frame_pattern l.named l.tag))
