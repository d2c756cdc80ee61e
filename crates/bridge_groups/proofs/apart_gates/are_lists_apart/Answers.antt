use Rattle.std.proofs.Common.{arith}
use Rattle.bridge_groups.proofs.ApartGates.{apart_always}
use Rattle.bridge_groups.proofs.apart_gates.are_lists_apart.Goals as goal

pub returns : goal.returns
returns g c = λ e.
    let past = c.loop-index-test.false in
    apart_always c.args.lists.now c.requires.lawful c.in-Some.cycle c.args.gap c.in-Some.ensures.some.0 c.in-Some.ensures.common (λ i inside. c.loop-index.invariant i (omega (arith, inside, past)))
