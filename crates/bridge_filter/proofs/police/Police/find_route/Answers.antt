use Rattle.std.proofs.Common.{subst, false, ◌≡◌}
use Rattle.std.specs.Prelude.{IfSome, true}
use Rattle.bridge_filter.specs.Verdicts.{filter_input}
use Rattle.bridge_filter.specs.Plans.{is_listed}
use Rattle.bridge_filter.specs.StandsFor.{PoliceState}
use Rattle.bridge_filter.specs.Steps.{filter_plans}
use Rattle.bridge_filter.proofs.Flows.{found_there_too}
use Rattle.bridge_filter.proofs.police.Police.find_route.Goals as goal

pub look_up_route-requires-clause-meters : goal.look_up_route-requires-clause-meters
look_up_route-requires-clause-meters g c = λ n f found. (c.self.invariant.instances n f found).meter

pub returns-clause-there : goal.returns-clause-there
returns-clause-there g c =
    let fs = filter_plans c.self.inside.filters.entries in
    let frame = filter_input 0 c.args.handle c.args.priority false 0 0 in
    subst (λ (z : PoliceState _). IfSome c.look_up_route.result (λ r. is_listed r.number z.filters ≡ true)) c.self.view_is (found_there_too fs frame _ c.self.invariant.distinct (c.look_up_route.ensures.number 0 0 0 false))
