use Rattle.std.proofs.Common.{◌≡◌, ◌∙◌, Some, None, sym, ap, refl}
use Rattle.net_model.specs.Faults.{protected_handle}
use Rattle.net_model.proofs.Handles.{names_handle}
use Rattle.net_model.proofs.stray.first_stray_on_port.Goals as goal

pub first_stray_over_link-requires : goal.first_stray_over_link-requires
first_stray_over_link-requires g c =
    let found : protected_handle c.args.next.now.filters c.args.hop.filter ≡ Some c.in-Some.handle = ap (λ fs. protected_handle fs c.args.hop.filter) (sym c.filters-filters.ensures.filters) ∙ (sym c.protected_handle.ensures ∙ c.in-Some.is) in
    names_handle c.args.next.now c.args.hop.filter c.in-Some.handle c.filters-filters.ensures.rules found

pub returns-in-Some-clause-found : goal.returns-in-Some-clause-found
returns-in-Some-clause-found g c =
    let found : protected_handle c.args.next.now.filters c.args.hop.filter ≡ Some c.in-Some.handle = ap (λ fs. protected_handle fs c.args.hop.filter) (sym c.filters-filters.ensures.filters) ∙ (sym c.protected_handle.ensures ∙ c.in-Some.is) in
    rw found c.first_stray_over_link.ensures.found

pub returns-in-None-clause-found : goal.returns-in-None-clause-found
returns-in-None-clause-found g c =
    let none : protected_handle c.args.next.now.filters c.args.hop.filter ≡ None = ap (λ fs. protected_handle fs c.args.hop.filter) (sym c.filters-filters.ensures.filters) ∙ (sym c.protected_handle.ensures ∙ c.in-None.is) in
    rw none refl
