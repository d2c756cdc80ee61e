use Rattle.std.proofs.Common.{sym}
use Rattle.bridge_config.proofs.PlanPorts.{port_is}
use Rattle.net_model.proofs.sending_port.SendingPort.first_frame_on_ingress_number.Goals as goal

pub first_frame_on_ingress-requires-clause-from : goal.first_frame_on_ingress-requires-clause-from
first_frame_on_ingress-requires-clause-from g c = (port_is c.args.self.now.plan.now.ports c.args.port c.in-Some.on.now c.in-Some.ensures.rules.ports (sym c.in-Some.ensures.port)).0.number_from

pub first_frame_on_ingress-requires-clause-to : goal.first_frame_on_ingress-requires-clause-to
first_frame_on_ingress-requires-clause-to g c = (port_is c.args.self.now.plan.now.ports c.args.port c.in-Some.on.now c.in-Some.ensures.rules.ports (sym c.in-Some.ensures.port)).0.number_to
