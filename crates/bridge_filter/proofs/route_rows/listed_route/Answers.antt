use Rattle.std.proofs.Common.{arith, refl, length, ◌≡◌, ◌∙◌, ℕ, Some, ap, sym, subst}
use Rattle.std.specs.Prelude.{slice_get}
use Rattle.std.specs.Option.{option_map}
use Rattle.std.proofs.lemmas.Option.{slice_get-map, slice_get_read, same_Some}
use Rattle.bridge_filter.specs.declared.FilterPlan.{FilterPlan}
use Rattle.bridge_filter.specs.declared.filter_state.FilterState.{FilterState}
use Rattle.bridge_filter.specs.Steps.{filter_plans}
use Rattle.bridge_filter.proofs.route_rows.listed_route.Goals as goal

pub returns-clause-plan : goal.returns-clause-plan
returns-clause-plan g c = λ gates meters are.
    let a = c.args in
    let es = a.filters.now.entries in
    let fs = filter_plans es in
    let number = c.in-Some.field-0-0.now in
    let plan = c.in-Some.filter.now.plan in
    let route = c.in-Some-get.route.now in
    let there : slice_get a.routes.now a.place ≡ Some route = slice_get_read a.routes.now (length a.routes.now) a.place route refl (omega (arith, c.requires.within, c.requires.routes)) c.in-Some-get.ensures.lookup.1 in
    let it = are.each a.place route there in
    let mine : slice_get fs a.place ≡ Some (number, plan) = slice_get-map (λ (f : ℕ × FilterState). (f.0, f.1.plan)) es a.place ∙ ap (option_map (λ (f : ℕ × FilterState). (f.0, f.1.plan))) (sym c.in-Some.ensures.entry) in
    let theirs : slice_get fs a.place ≡ Some (route.number, it.plan) = subst (λ (i : ℕ). slice_get fs i ≡ Some (route.number, it.plan)) (are.places a.place route there) it.filter in
    let same : (number, plan) ≡ (route.number, it.plan) = same_Some (number, plan) (route.number, it.plan) (sym mine ∙ theirs) in
    mine ∙ ap (λ (n : ℕ). Some (n, plan)) (ap (λ (f : ℕ × FilterPlan). f.0) same)
