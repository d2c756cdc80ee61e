use Rattle.bridge_config.proofs.InTurn.{one_more}
use Rattle.bridge_config.proofs.plan.collect_port_numbers.Goals as goal

pub loop-port-preserved : goal.loop-port-preserved
loop-port-preserved g c = one_more _ _ _ _ _ c.loop-port-test.true c.port-item.is c.loop-port.invariant c.in-Ok.ensures.items
