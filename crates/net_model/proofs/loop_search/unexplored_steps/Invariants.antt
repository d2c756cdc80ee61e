use Rattle.std.proofs.Common.{◌≡◌, take}
use Rattle.std.specs.List.{filter}
use Rattle.net_model.specs.Searching.{is_unexplored}
use Rattle.net_model.proofs.loop_search.unexplored_steps.Given as goal

abbrev pub invariant-loop-step : goal.invariant-loop-step
invariant-loop-step g l = l.left.items ≡ filter (is_unexplored l.start l.reached) (take l.step-index l.steps)
