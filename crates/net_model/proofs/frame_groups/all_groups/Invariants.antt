use Rattle.std.proofs.Common.{◌≡◌, [], take, fold}
use Rattle.net_model.specs.FrameGroups.{with_plan}
use Rattle.net_model.proofs.frame_groups.all_groups.Given as goal

abbrev pub invariant-loop-accepted : goal.invariant-loop-accepted
invariant-loop-accepted g l = l.groups.items ≡ fold with_plan [] (take l.accepted-index l.plans)
