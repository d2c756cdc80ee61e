use Rattle.std.proofs.Common.{◌≡◌, true, refl}
use Rattle.std.proofs.lemmas.Result.{IfOk-weaker}
use Rattle.bridge_filter.specs.Plans.{is_listed}
use Rattle.test_memory.proofs.parts.make_police.Goals as goal

pub returns-clause-gate : goal.returns-clause-gate
returns-clause-gate g c = IfOk-weaker c.new.result _ _ (λ p keeps. keeps 1 c.in_ok-gates.ensures.there) c.new.ensures.gates

pub returns-clause-meter : goal.returns-clause-meter
returns-clause-meter g c =
    let there : is_listed 5 c.in_ok-meters.meters.items ≡ true = rw c.in_ok-meters.ensures.items refl in
    IfOk-weaker c.new.result _ _ (λ p keeps. keeps 5 there) c.new.ensures.meters
