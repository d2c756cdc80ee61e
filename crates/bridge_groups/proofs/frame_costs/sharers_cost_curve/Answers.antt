use Rattle.std.proofs.Common.{◌≤◌, ◌+◌, ◌*◌, ℕ, arith, subst, sym}
use Rattle.bridge_filter.specs.declared.FilterPlan.{FilterPlan}
use Rattle.bridge_meter.specs.Colours.{octet_units}
use Rattle.bridge_semantics.specs.Events.{plan_police}
use Rattle.bridge_groups.specs.Curves.{optional_burst}
use Rattle.bridge_groups.specs.CostCurves as spec
use Rattle.bridge_groups.proofs.FrameCosts.{costs_cover, covered_by}
use Rattle.bridge_groups.proofs.frame_costs.sharers_cost_curve.Goals as goal

pub returns : goal.returns
returns g c =
    let p = c.args.plan.now in
    let gs = c.args.sharers.now in
    let burst = c.cost_sums-burst.ensures.burst in
    let few = c.cost_sums-burst.ensures.few in
    let slow = c.if-rate-unit.false in
    record {
      line = record { unit_some = omega arith; unit_few = omega arith; burst_few = omega (arith, few); rate_few = omega (arith, slow) };
      covers = λ w.
          let cover = costs_cover p c.args.fit c.args.speed gs w in
          let one : spec.sharers_cost_curve p c.args.fit c.args.speed gs w * (128 * octet_units) ≤ spec.cost_sum (λ (f : FilterPlan). optional_burst (plan_police p).meters f.meter) c.args.fit c.args.speed gs * octet_units + c.cost_sums-burst.result.1 * w = subst (λ (r : ℕ). spec.sharers_cost_curve p c.args.fit c.args.speed gs w * (128 * octet_units) ≤ spec.cost_sum (λ (f : FilterPlan). optional_burst (plan_police p).meters f.meter) c.args.fit c.args.speed gs * octet_units + r * w) (sym c.cost_sums-burst.ensures.rate) cover in
          covered_by (spec.sharers_cost_curve p c.args.fit c.args.speed gs w) (c.cost_sums-burst.result.0 * octet_units + c.cost_sums-burst.result.1 * w) (128 * octet_units) (omega arith) (omega (arith, one, burst));
    }
