use Rattle.std.proofs.Common.{◌≡◌, ℕ, arith, subst}
use Rattle.bridge_groups.specs.GroupRows.{AreRowsSoFar}
use Rattle.bridge_groups.proofs.Rows.{rows_next}
use Rattle.bridge_groups.proofs.group_rows.put_group_rows.Goals as goal

pub returns : goal.returns
returns g c =
    let (upto, rows) = c.loop-place.invariant in
    let end = c.loop-place-test.false in
    let same : c.loop-place.place ≡ 128 = omega (arith, upto, end) in
    record { one_more = rows_next c.args.accepted.now c.args.group c.loop-place.rows.items (subst (λ (n : ℕ). AreRowsSoFar c.args.accepted.now c.args.group n c.loop-place.rows.items) same rows) }
