use Rattle.std.proofs.Common.{◌≡◌, ℕ, ◌≤◌, ◌<◌, ◌+◌, ◌-◌, min, arith, subst, sym, inl, inr}
use Rattle.std.proofs.lemmas.Bool.{cases_lt}
use Rattle.bridge_groups.specs.LinearCurves.{IsLinearCurve, curve_at}
use Rattle.bridge_groups.specs.declared.linear_curve.LinearCurve.{LinearCurve}
use Rattle.bridge_groups.proofs.LinearCurves.{first_later, first_most}
use Rattle.bridge_groups.proofs.span_search.pass_run.Goals as goal
use Rattle.bridge_groups.proofs.span_search.pass_run.Goals.{in-Some, in-None}

spans : (span time end next : ℕ) → next ≡ min time end → span < end → (time < end → span < time) → (span ≤ next) × (next ≤ end)
spans span time end next is before later = elim (cases_lt time end) [
  | inl l ↦ (let m = later l in omega (arith, is, l, m), omega (arith, is, l))
  | inr l ↦ (omega (arith, is, l, before), omega (arith, is, l))
]

most_at : (c : LinearCurve) (span next time most : ℕ) → IsLinearCurve c → next ≡ time → span < time → ((w : ℕ) → w < time → curve_at c w < most) → curve_at c next ≤ most + 4_000_000_000
most_at c span next time most is same later earlier =
    let few = first_most c time most is (omega (arith, later)) (earlier (time - 1) (omega (arith, later))) in
    subst (λ (i : ℕ). curve_at c i ≤ most + 4_000_000_000) (sym same) (omega (arith, few))

-- The span has less work than ends the run.
less_work : (curve result work rank length reached : ℕ) → reached ≡ curve → rank + work ≤ curve → reached - work < rank + length → curve < work + (rank + length)
less_work curve result work rank length reached at some upto = omega (arith, at, some, upto)

pub returns-clause-span : goal.returns-clause-span
returns-clause-span c =
    let before = c.requires.before in
    let far = c.requires.limits.2 in
    elim c.match-first_time.branch [
      | in-Some w ↦
          let is = w.next-is in
          let least = w.min-next.ensures in
          let less = less_work (curve_at c.args.curve.now c.args.search.span) 0 c.args.limits.now.work c.args.search.rank c.args.run.length c.at.result c.at.ensures c.requires.reached c.if-reached-rank.false in
          let later : w.in-Some.time < c.args.limits.now.end → c.args.search.span < w.in-Some.time = λ soon. first_later c.args.curve.now c.args.search.span w.in-Some.time (c.args.limits.now.work + (c.args.search.rank + c.args.run.length)) c.requires.curve.unit_some less (w.in-Some.ensures.reached (omega (arith, soon, far))) in
          spans c.args.search.span w.in-Some.time c.args.limits.now.end _ (omega (arith, is, least)) before later
      | in-None w ↦ (let is = w.next-is in omega (arith, is, before), let is = w.next-is in omega (arith, is))
    ]

pub returns-clause-most : goal.returns-clause-most
returns-clause-most c h =
    let far = c.requires.limits.2 in
    elim c.match-first_time.branch [
      | in-Some w ↦
          let is = w.next-is in
          let least = w.min-next.ensures in
          let same : c.match-first_time.next ≡ w.in-Some.time = omega (arith, is, least, h) in
          let less = less_work (curve_at c.args.curve.now c.args.search.span) 0 c.args.limits.now.work c.args.search.rank c.args.run.length c.at.result c.at.ensures c.requires.reached c.if-reached-rank.false in
          let later = first_later c.args.curve.now c.args.search.span w.in-Some.time (c.args.limits.now.work + (c.args.search.rank + c.args.run.length)) c.requires.curve.unit_some less (w.in-Some.ensures.reached (omega (arith, same, h, far))) in
          most_at c.args.curve.now c.args.search.span c.match-first_time.next w.in-Some.time (c.args.limits.now.work + (c.args.search.rank + c.args.run.length)) c.requires.curve same later w.in-Some.ensures.earlier
      | in-None w ↦ absurd (let is = w.next-is in omega (arith, is, h))
    ]
