use Rattle.std.proofs.Common.{◌≡◌, ◌≤◌, ◌+◌, ◌++◌}
use Rattle.bridge_config.specs.Rules.{find_port}
use Rattle.net_model.specs.LoopSteps.{collect_below, steps_of_port}
use Rattle.net_model.proofs.group_steps.push_bridge_steps.Given as goal

abbrev pub invariant-loop-i : goal.invariant-loop-i
invariant-loop-i g l = (l.i ≤ 16) × (l.steps.items ≡ l.initial.steps.items ++ collect_below l.i (λ i. steps_of_port l.links l.group l.bridge l.plan (i + 1) (find_port l.plan.ports (i + 1))))
