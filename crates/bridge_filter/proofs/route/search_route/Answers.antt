use Rattle.std.proofs.Common.{◌∙◌, ap, sym, subst, Option}
use Rattle.std.specs.Prelude.{◌&&◌, IfSome}
use Rattle.std.specs.Option.{option_map}
use Rattle.std.specs.Map.{keys_of}
use Rattle.bridge_filter.specs.declared.FilterPlan.{FilterPlan}
use Rattle.bridge_filter.specs.declared.route.Route.{Route}
use Rattle.bridge_filter.specs.Verdicts.{is_handle_match, is_priority_match}
use Rattle.bridge_filter.specs.Routes.{IsRoute}
use Rattle.bridge_filter.specs.Steps.{filter_plans}
use Rattle.bridge_filter.proofs.Rowed.{number_more, kept_has}
use Rattle.bridge_filter.proofs.route.search_route.Goals as goal

pub loop-place-preserved : goal.loop-place-preserved
loop-place-preserved g c =
    let a = c.args in
    let fs = filter_plans a.filters.now.entries in
    let at = c.plan_and_route in
    let plan = at.result.0 in
    let was = c.loop-place.least in
    let P : Route → Type 0 = IsRoute fs (keys_of a.gates.now.entries) (keys_of a.meters.now.entries) in
    record {
      number = ap (option_map (λ (r : Route). r.number)) c.lesser_match-least.ensures ∙ number_more (λ (f : FilterPlan). is_handle_match f.handle a.handle && is_priority_match f.priority a.priority) fs c.loop-place.place plan at.result.1 was at.ensures.plan c.loop-place.invariant.number;
      route = subst (λ (o : Option Route). IfSome o P) (sym c.lesser_match-least.ensures) (kept_has P (is_handle_match plan.handle a.handle && is_priority_match plan.priority a.priority) at.result.1 was at.ensures.route c.loop-place.invariant.route);
    }
