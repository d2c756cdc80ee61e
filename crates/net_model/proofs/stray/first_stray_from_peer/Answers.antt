use Rattle.std.proofs.Common.{sym, refl}
use Rattle.net_model.proofs.Sampled.{if_some}
use Rattle.net_model.proofs.stray.first_stray_from_peer.Goals as goal

pub returns-in-Some-clause-stray : goal.returns-in-Some-clause-stray
returns-in-Some-clause-stray g c = if_some c.first_stray_of_sender.result (λ s h. rw (sym c.in-Some.ensures.plan) h) c.first_stray_of_sender.ensures.stray

pub find_plan-requires : goal.find_plan-requires
find_plan-requires g c κs h = h

pub first_stray_of_sender-requires : goal.first_stray_of_sender-requires
first_stray_of_sender-requires g c = c.requires

pub way_copy_out-plan : goal.way_copy_out-plan
way_copy_out-plan g c = refl

pub enum_noted-plan : goal.enum_noted-plan
enum_noted-plan g c = refl

pub returns-in-Some-clause-found : goal.returns-in-Some-clause-found
returns-in-Some-clause-found g c = rw (sym c.in-Some.ensures.plan) c.first_stray_of_sender.ensures.found

pub returns-in-None-clause-found : goal.returns-in-None-clause-found
returns-in-None-clause-found g c = rw (sym c.in-None.ensures.plan) refl
