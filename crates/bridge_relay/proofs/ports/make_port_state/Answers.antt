use Rattle.std.proofs.Common.{sym}
use Rattle.bridge_config.proofs.PlanPorts.{port_is}
use Rattle.bridge_relay.proofs.ports.make_port_state.Goals as goal

pub new-requires : goal.new-requires
new-requires g c = (port_is c.args.plan.now.ports c.args.number c.in-Some.port.now c.in-Some.ensures.rules.ports (sym c.in-Some.ensures.port)).0.rooms
