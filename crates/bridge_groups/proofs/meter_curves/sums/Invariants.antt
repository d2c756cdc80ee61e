use Rattle.std.proofs.Common.{◌≡◌, ◌≤◌, ◌+◌, ◌*◌, drop}
use Rattle.bridge_semantics.specs.Events.{plan_police}
use Rattle.bridge_groups.specs.Curves as spec
use Rattle.bridge_groups.proofs.meter_curves.sums.Given as goal

abbrev pub invariant-loop-at : goal.invariant-loop-at
invariant-loop-at g l =
    (l.burst + spec.burst_sum (plan_police l.plan).meters (drop l.at l.sharers) ≡ spec.burst_sum (plan_police l.plan).meters l.sharers)
    × (l.rate + spec.rate_sum (plan_police l.plan).meters (drop l.at l.sharers) ≡ spec.rate_sum (plan_police l.plan).meters l.sharers)
    × (l.burst ≤ l.at * 8589934590) × (l.rate ≤ l.at * 200000000000)
