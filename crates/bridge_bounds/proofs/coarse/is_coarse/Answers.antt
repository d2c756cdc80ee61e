use Rattle.std.proofs.Common.{◌≡◌, ℕ, List, Some, true, sym, subst, ◌∙◌}
use Rattle.std.specs.Prelude.{nat_eq}
use Rattle.std.specs.Map.{lookup}
use Rattle.std.proofs.lemmas.Option.{same_Some}
use Rattle.bridge_gate.specs.declared.schedule.GatePlan.{GatePlan}
use Rattle.bridge_filter.specs.declared.FilterPlan.{FilterPlan}
use Rattle.bridge_config.specs.declared.ports.PortPlan.{PortPlan}
use Rattle.bridge_config.specs.Model.{Plan}
use Rattle.bridge_config.specs.Rules.{find_port}
use Rattle.bridge_bounds.specs.Bounds.{IsCoarse, LackCommonCycle}
use Rattle.bridge_bounds.proofs.coarse.is_coarse.Goals as goal

pub returns-clause-coarse : goal.returns-clause-coarse
returns-clause-coarse g c =
    let p = c.plan-plan.result.now in
    let f = c.in-Some.filter in
    let s = c.in-Some-find_gate.gate.now in
    let out = c.in-Some-port.out.now in
    let found : lookup (nat_eq c.args.number) p.filters ≡ Some f = subst (λ (xs : List (ℕ × FilterPlan)). lookup (nat_eq c.args.number) xs ≡ Some f) c.filters.ensures.filters (sym c.in-Some.ensures) in
    let gated : lookup (nat_eq f.gate) p.gates ≡ Some s = subst (λ (xs : List (ℕ × GatePlan _)). lookup (nat_eq f.gate) xs ≡ Some s) c.gates.ensures.gates (sym c.in-Some-find_gate.ensures) in
    let at : find_port p.ports c.args.port ≡ Some out = sym c.in-Some-port.ensures.port in
    subst (λ (q : Plan _). (c.lack_common_cycle.result ≡ true → IsCoarse q c.args.number c.args.port) × (IsCoarse q c.args.number c.args.port → c.lack_common_cycle.result ≡ true)) c.plan-plan.ensures.plan (
      (λ is. record { filter = f; gate = s; out = out; found = found; gated = gated; at = at; lack = c.lack_common_cycle.ensures.0 is }),
      (λ coarse.
          let filter : coarse.filter ≡ f = same_Some coarse.filter f (sym coarse.found ∙ found) in
          let own : lookup (nat_eq f.gate) p.gates ≡ Some coarse.gate = subst (λ (h : FilterPlan). lookup (nat_eq h.gate) p.gates ≡ Some coarse.gate) filter coarse.gated in
          let gate : coarse.gate ≡ s = same_Some coarse.gate s (sym own ∙ gated) in
          let port : coarse.out ≡ out = same_Some coarse.out out (sym coarse.at ∙ at) in
          c.lack_common_cycle.ensures.1 (subst (λ (o : PortPlan _). LackCommonCycle s.schedule o.list) port (subst (λ (h : GatePlan _). LackCommonCycle h.schedule coarse.out.list) gate coarse.lack))),
    )
