use Rattle.std.proofs.Common.{sym, refl}
use Rattle.bridge_config.proofs.PlanPorts.{number_is}
use Rattle.net_model.proofs.stray.first_stray_of_sender.Goals as goal

pub first_sample-requires : goal.first_sample-requires
first_sample-requires g c =
    let (low, high) = number_is c.args.plan.now.ports c.args.end.port c.in-Some.field-0.now c.in-Some.ensures.rules.ports (sym c.in-Some.ensures.port) in
    record { sending = record { from = low; to = high }; names = c.requires }

pub returns-in-Some-clause-found : goal.returns-in-Some-clause-found
returns-in-Some-clause-found g c = rw (sym c.in-Some.ensures.port) c.first_sample.ensures.found

pub returns-in-None-clause-found : goal.returns-in-None-clause-found
returns-in-None-clause-found g c = rw (sym c.in-None.ensures.port) refl
