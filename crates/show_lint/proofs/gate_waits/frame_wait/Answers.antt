use Rattle.std.proofs.Common.{◌≡◌, ◌+◌, ◌-◌, arith, subst}
use Rattle.bridge_cycle.specs.Fits.{IsFirstFit}
use Rattle.bridge_port.specs.GateSchedule.{list_opens}
use Rattle.show_lint.proofs.gate_waits.frame_wait.Goals as goal

pub first_fit-requires-clause-some : goal.first_fit-requires-clause-some
first_fit-requires-clause-some g c =
    let near = c.requires.soon c.args.occupied c.args.from c.requires.allowed in
    (near.0, near.1, (let before = near.2 in omega (arith, before)), near.3)

pub returns : goal.returns
returns g c =
    let after = c.first_fit.ensures.after in
    let same : c.first_fit.result ≡ c.args.from + (c.first_fit.result - c.args.from) = omega (arith, after) in
    subst (IsFirstFit (list_opens c.args.list.now c.args.class) c.args.occupied c.args.from) same c.first_fit.ensures
