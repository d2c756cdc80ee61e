use Rattle.std.proofs.Common.{◌≡◌, ℕ, ◌∙◌, List, ap, map, subst}
use Rattle.std.specs.List.Sorted.{IsPermutation}
use Rattle.bridge_config.specs.declared.ports.PortPlan.{PortPlan}
use Rattle.bridge_config.specs.Model.{Plan}
use Rattle.bridge_config.specs.Rules.{IsPlan}
use Rattle.bridge_config.proofs.InOrder.{in_order, ports_differ}
use Rattle.bridge_config.proofs.plan.Plan.port_numbers.Goals as goal

pub returns : goal.returns
returns g c =
    let rules : IsPlan c.args.self.now = subst IsPlan c.self.view_is c.self.invariant in
    let numbers = λ (xs : List (PortPlan _)). map (λ (x : (PortPlan _)). x.number) xs in
    let made : c.in_ok-ports.ports.items ≡ numbers c.args.self.now.ports = c.in_ok-ports.ensures ∙ (ap numbers c.deref.ensures.value ∙ ap (λ (z : Plan _). numbers z.ports) c.self.view_is) in
    in_order (numbers c.args.self.now.ports) c.sort.new.self.items (ports_differ c.args.self.now.ports rules.ports.own) (subst (λ (all : List ℕ). IsPermutation all c.sort.new.self.items) made c.sort.ensures.permutation) c.in_ok-sort.ensures.sorted
