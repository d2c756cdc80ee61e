use Rattle.std.proofs.Common.{take}
use Rattle.bridge_limits.specs.Members.{IsMember}
use Rattle.net_model.specs.declared.step.Step.{Step}
use Rattle.net_model.specs.Walks.{IsOnLoop}
use Rattle.net_model.proofs.loop_port.first_loop_port.Given as goal

abbrev pub invariant-loop-step : goal.invariant-loop-step
invariant-loop-step g l = (s : Step) → IsMember s (take l.step-index l.steps) → ¬ IsOnLoop l.steps s.from
