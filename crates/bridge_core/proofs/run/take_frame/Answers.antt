use Rattle.bridge_core.proofs.Giving.{given_of, is_ahead}
use Rattle.bridge_core.proofs.run.take_frame.Goals as goal

pub unreachable-requires : goal.unreachable-requires
unreachable-requires g c = is_ahead c.args.lanes.now c.args.place c.requires.first c.index-lanes-place.result c.take.result c.requires.place c.index-lanes-place.is c.take.ensures.value c.in-None.is

pub returns : goal.returns
returns g c = record { given = given_of c.args.lanes.now c.args.place c.requires.first c.index-lanes-place.result c.take.result c.take.new.self c.in-Some.packet c.requires.place c.index-lanes-place.is c.take.ensures.value c.in-Some.is c.take.ensures.after }
