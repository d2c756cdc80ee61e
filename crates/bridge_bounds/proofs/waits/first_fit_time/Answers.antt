use Rattle.std.proofs.Common.{arith}
use Rattle.bridge_port.proofs.Opening.{list_soon}
use Rattle.bridge_bounds.proofs.Lists.{fit_soon}
use Rattle.bridge_bounds.proofs.waits.first_fit_time.Goals as goal

pub first_fit-requires-clause-some : goal.first_fit-requires-clause-some
first_fit-requires-clause-some g c =
    let near = list_soon c.args.list.now c.args.class c.args.occ c.args.from c.requires.lawful c.requires.ever in
    (near.0, near.1, (let before = near.2 in omega (arith, before)), near.3)

pub returns-clause-soon : goal.returns-clause-soon
returns-clause-soon g c = fit_soon c.args.list.now c.args.class c.args.occ c.args.from c.first_fit.result c.requires.lawful c.requires.ever c.first_fit.ensures
