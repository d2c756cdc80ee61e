use Rattle.std.proofs.Common.{ap, ◌∙◌}
use Rattle.net_model.specs.Faults.{is_entry_port}
use Rattle.net_model.proofs.Walked.{all_fail, fails, passes}
use Rattle.net_model.proofs.network_tests.TestedHop.has_entry_port.Goals as goal

pub returns-then-is_entry_port : goal.returns-then-is_entry_port
returns-then-is_entry_port g c =
    let h = c.args.self.now in
    let test = is_entry_port h.case.links.now h.hop.bridge h.next.now h.handle in
    passes test c.ports-on-items.result.now h.next.now.ports c.loop-on.on-index c.ports-on-items.ensures.ports
    _ c.is_entry_port.result (c.is_entry_port.ensures ∙ ap test c.on-item.is) c.loop-on-test.true c.if-is_entry_port.true c.loop-on.invariant

pub loop-on-preserved : goal.loop-on-preserved
loop-on-preserved g c =
    let h = c.args.self.now in
    let test = is_entry_port h.case.links.now h.hop.bridge h.next.now h.handle in
    fails test c.ports-on-items.result.now h.next.now.ports c.loop-on.on-index c.ports-on-items.ensures.ports
    _ c.is_entry_port.result (c.is_entry_port.ensures ∙ ap test c.on-item.is) c.loop-on-test.true c.if-is_entry_port.false c.loop-on.invariant

pub returns : goal.returns
returns g c =
    let h = c.args.self.now in
    all_fail (is_entry_port h.case.links.now h.hop.bridge h.next.now h.handle) c.ports-on-items.result.now h.next.now.ports c.loop-on.on-index c.ports-on-items.ensures.ports
    c.loop-on-test.false c.loop-on.invariant
