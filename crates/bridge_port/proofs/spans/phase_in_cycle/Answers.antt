use Rattle.std.proofs.Common.{◌≡◌, ◌<◌, ◌≤◌, ◌-◌, ◌*◌, ◌%◌, ℕ, arith, subst, sym}
use Rattle.bridge_port.proofs.Fitting.{into_is}
use Rattle.bridge_port.proofs.spans.phase_in_cycle.Goals as goal

pub returns-then-t-lap : goal.returns-then-t-lap
returns-then-t-lap c =
    let before = c.if-lap-t.true in
    let within = c.if-t-lap.true in
    let least = c.saturating_mul-lap.ensures in
    let early = c.requires.early in
    let is : c.saturating_mul-lap.result ≡ c.args.laps.now * c.args.cycle = omega (arith, least, before, early) in
    subst (λ (lap : ℕ). c.args.t - lap ≡ c.args.t % c.args.cycle) (sym is)
    (into_is c.args.laps.now c.args.cycle c.args.t (subst (λ (lap : ℕ). lap ≤ c.args.t) is before) (subst (λ (lap : ℕ). c.args.t - lap < c.args.cycle) is within))
