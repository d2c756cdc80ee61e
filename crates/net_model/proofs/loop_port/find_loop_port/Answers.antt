use Rattle.std.proofs.Common.{◌≡◌, sym}
use Rattle.net_model.proofs.Laid.{some_wider}
use Rattle.net_model.proofs.loop_port.find_loop_port.Goals as goal

pub returns-clause-some : goal.returns-clause-some
returns-clause-some g c = some_wider c.args.steps.now c.in_ok-kept.kept.items c.first_loop_port.result c.in_ok-kept.ensures (rw c.deref.ensures.value at c.first_loop_port.ensures.some)

pub returns-clause-none : goal.returns-clause-none
returns-clause-none g c = λ is x round. (rw c.deref.ensures.value at c.first_loop_port.ensures.none) is x (c.in_ok-kept.ensures.keeps x round)
