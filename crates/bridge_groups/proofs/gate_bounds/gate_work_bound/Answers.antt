use Rattle.std.proofs.Common.{◌≡◌, sym, subst, Some, ℕ, List}
use Rattle.std.specs.Prelude.{nat_eq}
use Rattle.std.specs.Map.{lookup}
use Rattle.bridge_filter.specs.declared.FilterPlan.{FilterPlan}
use Rattle.bridge_config.specs.Model.{Plan}
use Rattle.bridge_check.specs.Acceptable.{IsAcceptable}
use Rattle.bridge_bounds.proofs.Reached.{found_in}
use Rattle.bridge_groups.proofs.gate_bounds.gate_work_bound.Goals as goal

pub reached_gate_bound-requires-clause-passes : goal.reached_gate_bound-requires-clause-passes
reached_gate_bound-requires-clause-passes g c =
    let acceptable : IsAcceptable c.plan-plan.result.now = subst (λ (p : Plan _). IsAcceptable p) (sym c.plan-plan.ensures.plan) c.plan-plan.ensures.acceptable in
    let found : lookup (nat_eq c.args.number) c.plan-plan.result.now.filters ≡ Some c.in_ok-filter.filter = subst (λ (xs : List (ℕ × FilterPlan)). lookup (nat_eq c.args.number) xs ≡ Some c.in_ok-filter.filter) c.filters.ensures.filters (sym c.in_ok-filter.ensures) in
    acceptable c.args.number c.in_ok-filter.filter (found_in c.plan-plan.result.now.filters c.args.number c.in_ok-filter.filter found) c.if-not-filter.false
