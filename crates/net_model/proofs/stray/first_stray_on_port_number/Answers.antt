use Rattle.std.proofs.Common.{sym}
use Rattle.std.specs.Prelude.{is_some}
use Rattle.net_model.specs.Faults.{protected_handle}
use Rattle.net_model.proofs.Sampled.{and_false, if_some, some_map}
use Rattle.net_model.proofs.stray.first_stray_on_port_number.Goals as goal

pub returns-in-Some-clause-stray : goal.returns-in-Some-clause-stray
returns-in-Some-clause-stray g c = if_some c.first_stray_on_port.result (λ s h. rw (sym c.in-Some.ensures.port) h) c.first_stray_on_port.ensures.stray

pub returns-in-Some-clause-found : goal.returns-in-Some-clause-found
returns-in-Some-clause-found g c = rw (sym c.in-Some.ensures.port, some_map) c.first_stray_on_port.ensures.found

pub returns-in-None-clause-found : goal.returns-in-None-clause-found
returns-in-None-clause-found g c = rw (sym c.in-None.ensures.port) (sym (and_false (is_some (protected_handle c.args.next.now.filters c.args.hop.filter))))
