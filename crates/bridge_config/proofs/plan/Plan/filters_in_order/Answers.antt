use Rattle.std.proofs.Common.{◌≡◌, ◌∙◌, ap, rules, subst}
use Rattle.std.specs.List.Sorted.{IsPermutation}
use Rattle.std.proofs.lemmas.List.Sorted.{IsNonDecreasingBy-from_sort_by_key}
use Rattle.bridge_config.specs.Model.{Plan}
use Rattle.bridge_config.specs.Rules.{IsPlan}
use Rattle.bridge_config.proofs.Sorted.{rising_sorted, same_lookup}
use Rattle.bridge_config.proofs.plan.Plan.filters_in_order.Goals as goal

pub returns-clause-rises : goal.returns-clause-rises
returns-clause-rises g c =
    let kept : IsPlan c.args.self.now = subst IsPlan c.self.view_is c.self.invariant in
    let all = c.args.self.now.filters in
    let sorted = c.sort_by_key.new.self.items in
    let from : c.in_ok-filters.filters.items ≡ all = c.in_ok-filters.ensures.items ∙ (c.deref.ensures.value ∙ ap (λ (z : Plan _). z.filters) c.self.view_is) in
    rising_sorted all sorted kept.filters.own (subst (λ xs. IsPermutation xs sorted) from c.in_ok-sort_by_key.ensures.permutation)
    (IsNonDecreasingBy-from_sort_by_key (λ x. x.0) _ c.in_ok-sort_by_key.ensures.sorted (λ a r q k. search rules))

pub returns-clause-same : goal.returns-clause-same
returns-clause-same g c = λ n.
    let kept : IsPlan c.args.self.now = subst IsPlan c.self.view_is c.self.invariant in
    let all = c.args.self.now.filters in
    let sorted = c.sort_by_key.new.self.items in
    let from : c.in_ok-filters.filters.items ≡ all = c.in_ok-filters.ensures.items ∙ (c.deref.ensures.value ∙ ap (λ (z : Plan _). z.filters) c.self.view_is) in
    same_lookup n all sorted kept.filters.own (subst (λ xs. IsPermutation xs sorted) from c.in_ok-sort_by_key.ensures.permutation)
