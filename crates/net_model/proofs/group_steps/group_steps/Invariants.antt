use Rattle.std.proofs.Common.{◌≡◌, ◌++◌, drop}
use Rattle.net_model.specs.LoopSteps.{group_steps}
use Rattle.net_model.proofs.group_steps.group_steps.Given as goal

abbrev pub invariant-loop-place : goal.invariant-loop-place
invariant-loop-place g l = l.steps.items ++ group_steps l.links l.group l.place (drop l.place l.plans) ≡ group_steps l.links l.group 0 l.plans
