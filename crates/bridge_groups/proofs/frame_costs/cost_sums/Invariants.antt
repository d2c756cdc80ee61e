use Rattle.std.proofs.Common.{◌≡◌, ◌≤◌, ◌+◌, ◌*◌, drop}
use Rattle.bridge_filter.specs.declared.FilterPlan.{FilterPlan}
use Rattle.bridge_semantics.specs.Events.{plan_police}
use Rattle.bridge_groups.specs.Curves.{optional_burst, optional_rate}
use Rattle.bridge_groups.specs.CostCurves as spec
use Rattle.bridge_groups.proofs.frame_costs.cost_sums.Given as goal

abbrev pub invariant-loop-at : goal.invariant-loop-at
invariant-loop-at g l = record {
  burst : l.burst + spec.cost_sum (λ (f : FilterPlan). optional_burst (plan_police l.plan).meters f.meter) l.fit l.speed (drop l.at l.sharers) ≡ spec.cost_sum (λ (f : FilterPlan). optional_burst (plan_police l.plan).meters f.meter) l.fit l.speed l.sharers;
  rate : l.rate + spec.cost_sum (λ (f : FilterPlan). optional_rate (plan_police l.plan).meters f.meter) l.fit l.speed (drop l.at l.sharers) ≡ spec.cost_sum (λ (f : FilterPlan). optional_rate (plan_police l.plan).meters f.meter) l.fit l.speed l.sharers;
  few : l.burst ≤ l.at * 3000000000000000;
  slow : l.rate ≤ l.at * 60000000000000000;
}
