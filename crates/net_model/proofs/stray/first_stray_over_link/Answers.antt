use Rattle.std.proofs.Common.{sym, refl}
use Rattle.net_model.proofs.Sampled.{if_some}
use Rattle.net_model.proofs.stray.first_stray_over_link.Goals as goal

pub returns-in-Some-clause-stray : goal.returns-in-Some-clause-stray
returns-in-Some-clause-stray g c = if_some c.first_stray_from_peer.result (λ s h. rw (sym c.in-Some.ensures) h) c.first_stray_from_peer.ensures.stray

pub first_stray_from_peer-requires : goal.first_stray_from_peer-requires
first_stray_from_peer-requires g c = c.requires

pub returns-in-Some-clause-found : goal.returns-in-Some-clause-found
returns-in-Some-clause-found g c = rw (sym c.in-Some.ensures) c.first_stray_from_peer.ensures.found

pub returns-in-None-clause-found : goal.returns-in-None-clause-found
returns-in-None-clause-found g c = rw (sym c.in-None.ensures) refl
