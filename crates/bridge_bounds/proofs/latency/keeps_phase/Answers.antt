use Rattle.bridge_bounds.proofs.Periods.{keeps_phase}
use Rattle.bridge_bounds.proofs.latency.keeps_phase.Goals as goal

pub returns : goal.returns
returns g c = λ p n f es v q base k period from upto least most first last next out alone at repeats low high gap room can h. keeps_phase p out base k period from upto least most first last next es (alone.lists q k) (alone.solo.offers q k out at) (alone.solo.solo q k out at) repeats low high gap room can h
