use Rattle.std.proofs.Common.{◌≡◌, Some, None, ap, arith, sym, subst, ◌∙◌}
use Rattle.bridge_config.specs.Model.{Plan}
use Rattle.bridge_groups.specs.GroupRows.{least_group}
use Rattle.bridge_groups.proofs.Rows.{IsNextGroup, least_is_next, rows_all, rows_up}
use Rattle.bridge_groups.proofs.group_rows.put_all_rows.Goals as goal

pub returns-in_default : goal.returns-in_default
returns-in_default g c =
    let p = c.args.accepted.now in
    let fs : c.filters-filters.result.now ≡ p.filters = c.filters-filters.ensures.filters ∙ ap (λ (z : Plan _). z.filters) c.plan.ensures.plan in
    let known : c.least_group.result ≡ least_group c.groups.from p.filters = c.least_group.ensures ∙ ap (least_group c.groups.from) fs in
    let next : IsNextGroup p.filters c.groups.from None = subst (IsNextGroup p.filters c.groups.from) (sym known ∙ c.in_default.is) (least_is_next c.groups.from p.filters) in
    record { all = rows_all p c.groups.from c.groups.rows.items next c.groups.invariant.1 }

pub put_group_rows-requires-clause-so_far : goal.put_group_rows-requires-clause-so_far
put_group_rows-requires-clause-so_far g c =
    let p = c.args.accepted.now in
    let fs : c.filters-filters.result.now ≡ p.filters = c.filters-filters.ensures.filters ∙ ap (λ (z : Plan _). z.filters) c.plan.ensures.plan in
    let known : c.least_group.result ≡ least_group c.groups.from p.filters = c.least_group.ensures ∙ ap (least_group c.groups.from) fs in
    let next : IsNextGroup p.filters c.groups.from (Some c.in-Some.group) = subst (IsNextGroup p.filters c.groups.from) (sym known ∙ c.in-Some.is) (least_is_next c.groups.from p.filters) in
    rows_up p c.groups.from c.in-Some.group c.groups.rows.items next c.groups.invariant.1

pub groups-smaller : goal.groups-smaller
groups-smaller g c =
    let p = c.args.accepted.now in
    let fs : c.filters-filters.result.now ≡ p.filters = c.filters-filters.ensures.filters ∙ ap (λ (z : Plan _). z.filters) c.plan.ensures.plan in
    let known : c.least_group.result ≡ least_group c.groups.from p.filters = c.least_group.ensures ∙ ap (least_group c.groups.from) fs in
    let next : IsNextGroup p.filters c.groups.from (Some c.in-Some.group) = subst (IsNextGroup p.filters c.groups.from) (sym known ∙ c.in-Some.is) (least_is_next c.groups.from p.filters) in
    let low = next.0 in
    let after = c.number_after-from.ensures.next in
    let few = c.number_after-from.ensures.few in
    omega (arith, low, after, few)
