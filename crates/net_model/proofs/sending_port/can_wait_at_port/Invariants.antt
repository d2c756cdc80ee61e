use Rattle.std.proofs.Common.{◌≡◌, ◌≤◌}
use Rattle.bridge_check.specs.Reach.{some_number_passes, reaches_queue}
use Rattle.net_model.proofs.sending_port.can_wait_at_port.Given as goal

abbrev pub invariant-loop-class : goal.invariant-loop-class
invariant-loop-class g l = (l.class ≤ 8) × (l.found ≡ some_number_passes l.class (reaches_queue l.plan l.filter l.port.number))
