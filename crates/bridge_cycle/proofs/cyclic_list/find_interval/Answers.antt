use Rattle.std.proofs.Common.{◌≡◌, ◌+◌, ◌-◌, ◌<◌, length, arith, slice_index}
use Rattle.bridge_cycle.proofs.Totals.{place_found}
use Rattle.bridge_cycle.proofs.cyclic_list.find_interval.Goals as goal
use Rattle.bridge_cycle.proofs.cyclic_list.find_interval.Goals.{then-place-eq0, else-place-eq0, then-place-ends, else-place-ends}

pub returns : goal.returns
returns g c =
    let i = c.find_index-place.result in
    let first : i ≡ 0 → c.if-place-eq0.start ≡ 0 = λ none. elim c.if-place-eq0.branch [ then-place-eq0 w ↦ w.start-is | else-place-eq0 w ↦ absurd (w.if-place-eq0.false none) ] in
    let later : 0 < i → c.if-place-eq0.start ≡ slice_index c.args.ends.now (i - 1) = λ some. elim c.if-place-eq0.branch [ then-place-eq0 w ↦ absurd (omega arith) | else-place-eq0 w ↦ w.start-is ] in
    let last : i + 1 ≡ length c.args.ends.now → c.if-place-ends.end ≡ c.args.cycle = λ only. elim c.if-place-ends.branch [ then-place-ends w ↦ w.end-is | else-place-ends w ↦ absurd (w.if-place-ends.false only) ] in
    let inner : i + 1 < length c.args.ends.now → c.if-place-ends.end ≡ slice_index c.args.ends.now i = λ more. elim c.if-place-ends.branch [ then-place-ends w ↦ absurd (omega arith) | else-place-ends w ↦ w.end-is ] in
    place_found c.args.entries.now c.args.ends.now c.args.cycle c.args.phase i c.if-place-eq0.start c.if-place-ends.end c.index-entries-place.result c.requires.ends c.find_index-place.ensures first later last inner
