use Rattle.std.proofs.Common.{arith}
use Rattle.bridge_port.specs.GateSchedule.{list_opens}
use Rattle.bridge_port.proofs.Fitting.{first_of_until, some_both}
use Rattle.bridge_port.proofs.spans.fit_in_list.Goals as goal

pub returns : goal.returns
returns g c =
    let low = c.requires.from in
    let short = c.requires.occ in
    some_both c.fit_until_stop.result c.fit_until_stop.ensures.fit c.fit_until_stop.ensures.near (λ t fit near. first_of_until (list_opens c.args.list.now c.args.class) c.args.occ c.args.from 18446744073709551615 t fit (omega (arith, low, short, near)))
