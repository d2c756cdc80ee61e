use Rattle.std.proofs.Common.{◌≡◌, drop}
use Rattle.std.specs.List.{list_any}
use Rattle.net_model.specs.Faults.{is_entry_port}
use Rattle.net_model.proofs.network_tests.TestedHop.has_entry_port.Given as goal

abbrev pub invariant-loop-on : goal.invariant-loop-on
invariant-loop-on g l =
    list_any (is_entry_port l.self.case.links.now l.self.hop.bridge l.self.next.now l.self.handle) (drop l.on-index l.self.next.now.ports)
    ≡ list_any (is_entry_port l.self.case.links.now l.self.hop.bridge l.self.next.now l.self.handle) l.self.next.now.ports
