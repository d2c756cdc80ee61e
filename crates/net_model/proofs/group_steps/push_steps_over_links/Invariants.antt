use Rattle.std.proofs.Common.{◌≡◌, ◌≤◌, ◌+◌, ◌++◌}
use Rattle.net_model.specs.LoopSteps.{collect_below, steps_over_link}
use Rattle.net_model.proofs.group_steps.push_steps_over_links.Given as goal

abbrev pub invariant-loop-i : goal.invariant-loop-i
invariant-loop-i g l = (l.i ≤ 16) × (l.steps.items ≡ l.initial.steps.items ++ collect_below l.i (λ i. steps_over_link l.links l.from l.outs (i + 1)))
