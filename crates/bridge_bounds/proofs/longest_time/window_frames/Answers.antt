use Rattle.std.proofs.Common.{◌≡◌, ◌≤◌, ◌+◌, ◌-◌, ◌*◌, ◌/◌, ◌<◌, ℕ, MatchOption, Option, arith, subst}
use Rattle.bridge_cycle.specs.Fits.{Fits}
use Rattle.bridge_port.specs.GateSchedule.{list_opens}
use Rattle.bridge_bounds.specs.Intervals.{IsWindowEnd}
use Rattle.bridge_bounds.proofs.Steps.{ends_fitting}
use Rattle.bridge_bounds.proofs.Windows.{window_ends}
use Rattle.bridge_bounds.proofs.longest_time.window_frames.Goals as goal

pub returns-in-None-clause-ends : goal.returns-in-None-clause-ends
returns-in-None-clause-ends g c =
    let opens = list_opens c.args.list.now c.args.class in
    let all : (v : ℕ) → c.args.start ≤ v → Fits opens c.args.occ v = subst (λ (o : Option ℕ). MatchOption o ((v : ℕ) → c.args.start ≤ v → Fits opens c.args.occ v) (IsWindowEnd opens c.args.occ c.args.start)) c.in-None.is c.last_fit.ensures in
    ends_fitting opens c.args.occ c.args.most c.args.start (λ i h. all (c.args.start + i * c.args.occ) (omega arith))

pub returns-then-after_first-most-clause-ends : goal.returns-then-after_first-most-clause-ends
returns-then-after_first-most-clause-ends g c =
    let opens = list_opens c.args.list.now c.args.class in
    let window : IsWindowEnd opens c.args.occ c.args.start c.in-Some.last = subst (λ (o : Option ℕ). MatchOption o ((v : ℕ) → c.args.start ≤ v → Fits opens c.args.occ v) (IsWindowEnd opens c.args.occ c.args.start)) c.in-Some.is c.last_fit.ensures in
    window_ends opens c.args.occ c.args.start c.in-Some.last ((c.in-Some.last - c.args.start) / c.args.occ + 1) c.requires.some window (omega arith)

pub returns-else-after_first-most-clause-ends : goal.returns-else-after_first-most-clause-ends
returns-else-after_first-most-clause-ends g c =
    let opens = list_opens c.args.list.now c.args.class in
    let window : IsWindowEnd opens c.args.occ c.args.start c.in-Some.last = subst (λ (o : Option ℕ). MatchOption o ((v : ℕ) → c.args.start ≤ v → Fits opens c.args.occ v) (IsWindowEnd opens c.args.occ c.args.start)) c.in-Some.is c.last_fit.ensures in
    let more : c.args.most ≤ (c.in-Some.last - c.args.start) / c.args.occ = c.if-after_first-most.false in
    window_ends opens c.args.occ c.args.start c.in-Some.last c.args.most c.requires.some window (omega (arith, more))
