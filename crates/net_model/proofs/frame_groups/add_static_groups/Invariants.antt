use Rattle.std.proofs.Common.{◌≡◌, take, fold}
use Rattle.net_model.specs.FrameGroups.{with_static_entry}
use Rattle.net_model.proofs.frame_groups.add_static_groups.Given as goal

abbrev pub invariant-loop-entry : goal.invariant-loop-entry
invariant-loop-entry g l = l.groups.items ≡ fold with_static_entry l.initial.groups.items (take l.entry-index l.statics)
