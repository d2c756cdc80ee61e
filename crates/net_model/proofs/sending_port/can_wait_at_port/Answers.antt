use Rattle.std.proofs.Common.{◌≡◌, ◌∙◌, ap, arith}
use Rattle.bridge_check.specs.Reach.{some_number_passes, reaches_queue}
use Rattle.net_model.proofs.sending_port.can_wait_at_port.Goals as goal

pub returns : goal.returns
returns g c =
    let most = c.loop-class.invariant.0 in
    let least = c.loop-class-test.false in
    let all : c.loop-class.class ≡ 8 = omega (arith, most, least) in
    c.loop-class.invariant.1 ∙ ap (λ n. some_number_passes n (reaches_queue c.args.plan.now c.args.filter.now c.args.port.now.number)) all
