use Rattle.std.specs.List.{list_all}
use Rattle.std.proofs.Common.{◌≡◌, drop}
use Rattle.net_model.specs.LinkFrames.{possible_handles, frame_pattern}
use Rattle.net_model.specs.Handing.{gives_all, is_given}
use Rattle.net_model.proofs.handing.Taker.gives_all.Given as goal

abbrev pub invariant-loop-entry : goal.invariant-loop-entry
invariant-loop-entry g l =
    list_all (is_given l.self.plan.now l.self.on.now l.self.filter (frame_pattern l.named l.tag)) (possible_handles (drop l.entry-index l.self.plan.now.streams) l.port l.vid (frame_pattern l.named l.tag))
    ≡ gives_all l.self.plan.now l.self.on.now l.self.filter (frame_pattern l.named l.tag)
