use Rattle.std.proofs.Common.{◌≡◌, ◌++◌, take}
use Rattle.net_model.specs.Searching.{reached_targets}
use Rattle.net_model.proofs.loop_search.add_reached_ports.Given as goal

abbrev pub invariant-loop-step : goal.invariant-loop-step
invariant-loop-step g l = l.places.items ≡ l.reached ++ reached_targets l.start l.reached (take l.step-index l.steps)
