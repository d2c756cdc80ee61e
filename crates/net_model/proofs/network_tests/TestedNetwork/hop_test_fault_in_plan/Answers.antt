use Rattle.std.proofs.Common.{◌≡◌, ◌∙◌, Some, sym, ap}
use Rattle.net_model.specs.Faults.{protected_handle}
use Rattle.net_model.proofs.Handles.{names_handle}
use Rattle.net_model.proofs.network_tests.TestedNetwork.hop_test_fault_in_plan.Goals as goal

pub frames_test_fault-requires-clause-case : goal.frames_test_fault-requires-clause-case
frames_test_fault-requires-clause-case g c =
    let found : protected_handle c.args.next.now.filters c.args.hop.filter ≡ Some c.in-Some.handle = ap (λ fs. protected_handle fs c.args.hop.filter) (sym c.filters-filters.ensures.filters) ∙ (sym c.protected_handle.ensures ∙ c.in-Some.is) in
    record { names = names_handle c.args.next.now c.args.hop.filter c.in-Some.handle c.filters-filters.ensures.rules found; ports = c.entry_ports.ensures }
