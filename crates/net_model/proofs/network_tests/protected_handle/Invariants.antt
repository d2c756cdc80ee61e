use Rattle.std.proofs.Common.{◌≡◌, drop}
use Rattle.net_model.specs.Faults as spec
use Rattle.net_model.proofs.network_tests.protected_handle.Given as goal

abbrev pub invariant-loop-filter : goal.invariant-loop-filter
invariant-loop-filter l = spec.protected_handle (drop l.filter-index l.filters) l.number ≡ spec.protected_handle l.filters l.number
