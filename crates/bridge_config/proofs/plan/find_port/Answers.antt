use Rattle.bridge_config.proofs.InTurn.{found, found_none, passed}
use Rattle.bridge_config.proofs.plan.find_port.Goals as goal

pub returns-then-port-number : goal.returns-then-port-number
returns-then-port-number g c = found _ _ _ _ c.loop-port-test.true c.port-item.is c.if-port-number.true c.loop-port.invariant

pub loop-port-preserved : goal.loop-port-preserved
loop-port-preserved g c = passed _ _ _ _ c.loop-port-test.true c.port-item.is c.if-port-number.false c.loop-port.invariant

pub returns : goal.returns
returns g c = found_none _ _ _ c.loop-port-test.false c.loop-port.invariant
