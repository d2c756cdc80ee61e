use Rattle.std.proofs.Common.{◌≡◌, take}
use Rattle.std.specs.List.{filter}
use Rattle.net_model.specs.Pruning.{is_inner_step}
use Rattle.net_model.proofs.pruning.inner_steps.Given as goal

abbrev pub invariant-loop-step : goal.invariant-loop-step
invariant-loop-step g l = l.kept.items ≡ filter (is_inner_step l.steps) (take l.step-index l.steps)
