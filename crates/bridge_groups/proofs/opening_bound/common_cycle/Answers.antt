use Rattle.std.proofs.Common.{◌*◌, ◌/◌, arith}
use Rattle.std.proofs.lemmas.Nat.{div-add-mod'}
use Rattle.bridge_groups.proofs.opening_bound.common_cycle.Goals as goal

pub returns-then-common-gate-eq0-clause-gate : goal.returns-then-common-gate-eq0-clause-gate
returns-then-common-gate-eq0-clause-gate c =
    let parts = div-add-mod' (c.loop-count.count * c.args.port) c.args.gate in
    let rest = c.if-common-gate-eq0.true in
    ((c.loop-count.count * c.args.port) / c.args.gate, omega (arith, parts, rest))
