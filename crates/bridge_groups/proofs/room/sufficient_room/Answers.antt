use Rattle.std.proofs.Common.{arith}
use Rattle.bridge_groups.proofs.FitTurns.{list_has_fits}
use Rattle.bridge_groups.proofs.room.sufficient_room.Goals as goal

pub returns-clause-sufficient : goal.returns-clause-sufficient
returns-clause-sufficient g c =
    let order = c.loop-low.invariant.order in
    record {
      has_fit = list_has_fits c.args.list.now c.args.class c.args.occ c.requires.lawful c.requires.ever;
      has_place = omega (arith, order);
      drains = c.loop-low.invariant.enough;
    }
