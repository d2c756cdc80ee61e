-- A filter that fails no test has one plan entry, and its stream gate and meter for itself.
use Rattle.std.proofs.Common.{◌≡◌, ℕ, None}
use Rattle.bridge_limits.specs.Members.{IsMember}
use Rattle.bridge_filter.specs.declared.FilterPlan.{FilterPlan}
use Rattle.bridge_filter.specs.OwnEvents.{HasOwnInstances}
use Rattle.bridge_filter.specs.Plans.{police_plans}
use Rattle.bridge_filter.proofs.Members.{one_number}
use Rattle.bridge_config.specs.Model.{Plan}
use Rattle.bridge_config.specs.Rules.{IsPlan}
use Rattle.bridge_check.specs.Faults.{filter_fault}
use Rattle.bridge_check.proofs.Isolated.{isolated}

-- No other filter uses the stream gate or the meter of filter `f`.
pub apart : {A : Type 0} (p : Plan A) (n : ℕ) (f : FilterPlan) → IsPlan p → IsMember (n, f) p.filters → filter_fault p n f ≡ None → HasOwnInstances (police_plans p.filters p.gates p.meters) n f
apart p n f plan listed passes =
    let a = isolated p n f plan listed passes in
    record { one = λ g i. one_number p.filters n f g plan.filters.own listed i; gate = a.gate; meter = a.meter }
