use Rattle.std.proofs.Common.{sym}
use Rattle.bridge_config.proofs.PlanPorts.{number_is}
use Rattle.net_model.proofs.network_tests.TestedHop.first_frame_of_sender.Goals as goal

pub first_taken_frame-requires : goal.first_taken_frame-requires
first_taken_frame-requires g c =
    let (low, high) = number_is c.args.plan.now.ports c.args.end.port c.in-Some.field-0.now c.in-Some.ensures.rules.ports (sym c.in-Some.ensures.port) in
    record { sending = record { from = low; to = high }; names = c.requires.names }

pub returns-in-Some : goal.returns-in-Some
returns-in-Some g c = rw (sym c.in-Some.ensures.port) c.first_taken_frame.ensures
