use Rattle.std.proofs.Common.{◌<◌, ◌-◌, length, arith, sym, ◌∙◌}
use Rattle.std.proofs.lemmas.Bool.{leb-true}
use Rattle.bridge_port.proofs.Fitting.{end_is}
use Rattle.bridge_port.proofs.spans.have_ended.Goals as goal

pub returns : goal.returns
returns c = λ ends some.
    let within = c.requires in
    let below : c.args.place - 1 < length c.args.spans.now = omega (arith, within, some) in
    rw (end_is c.args.spans.now (c.args.place - 1) _ below ∙ sym c.from.ensures) (leb-true c.from.result c.args.t ends)
