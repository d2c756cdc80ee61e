use Rattle.std.proofs.Common.{◌≡◌, ◌+◌, take}
use Rattle.bridge_check.specs.ReachTables.{test_results}
use Rattle.net_model.proofs.EntryPorts.{gives_some}
use Rattle.net_model.proofs.entry_ports.entry_ports.Given as goal

abbrev pub invariant-loop-entry : goal.invariant-loop-entry
invariant-loop-entry g l = l.ports ≡ test_results 16 (λ i. gives_some (take l.entry-index l.plan.streams) (i + 1) l.handle)
