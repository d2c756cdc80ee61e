use Rattle.std.proofs.Common.{◌≡◌, ◌≤◌, ◌+◌}
use Rattle.bridge_check.specs.Reach.{some_number_passes}
use Rattle.net_latency.specs.Traffic.{has_misfit_at_port}
use Rattle.net_latency.proofs.traffic.has_misfit.Given as goal

abbrev pub invariant-loop-place : goal.invariant-loop-place
invariant-loop-place g l = (l.place ≤ 16) × (l.found ≡ some_number_passes l.place (λ i. has_misfit_at_port l.plan l.filter l.period (i + 1)))
