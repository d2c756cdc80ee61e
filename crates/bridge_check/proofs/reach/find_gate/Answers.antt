use Rattle.bridge_check.proofs.Passed.{looked_up, looked_past, looked_through}
use Rattle.bridge_check.proofs.reach.find_gate.Goals as goal

pub returns-then-gate-number : goal.returns-then-gate-number
returns-then-gate-number g c = looked_up c.args.number c.args.gates.now c.loop-gate.gate-index c.gate-item.result c.loop-gate-test.true c.gate-item.is c.if-gate-number.true c.loop-gate.invariant

pub loop-gate-preserved : goal.loop-gate-preserved
loop-gate-preserved g c = looked_past c.args.number c.args.gates.now c.loop-gate.gate-index c.gate-item.result c.loop-gate-test.true c.gate-item.is c.if-gate-number.false c.loop-gate.invariant

pub returns : goal.returns
returns g c = looked_through c.args.number c.args.gates.now c.loop-gate.gate-index c.loop-gate-test.false c.loop-gate.invariant
