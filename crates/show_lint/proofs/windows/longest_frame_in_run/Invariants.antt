use Rattle.bridge_cycle.specs.Runs.{Allows}
use Rattle.bridge_frame.specs.Link.{transmission_time}
use Rattle.show_lint.proofs.windows.longest_frame_in_run.Given as goal

abbrev pub invariant-loop-step : goal.invariant-loop-step
invariant-loop-step l = Allows l.run (transmission_time l.longest l.speed)
