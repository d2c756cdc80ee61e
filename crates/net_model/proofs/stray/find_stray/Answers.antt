use Rattle.std.proofs.Common.{sym, refl}
use Rattle.net_model.proofs.Sampled.{if_some}
use Rattle.net_model.proofs.stray.find_stray.Goals as goal

pub returns-in-Some-clause-stray : goal.returns-in-Some-clause-stray
returns-in-Some-clause-stray g c = if_some c.first_stray_on_port_number.result (λ s h. rw (sym c.in-Some.ensures.plan) h) c.first_stray_on_port_number.ensures.stray

pub returns-in-Some-clause-found : goal.returns-in-Some-clause-found
returns-in-Some-clause-found g c = rw (sym c.in-Some.ensures.plan) c.first_stray_on_port_number.ensures.found

pub returns-in-None-clause-found : goal.returns-in-None-clause-found
returns-in-None-clause-found g c = rw (sym c.in-None.ensures.plan) refl
