-- Laws of the lower crates for a filter that fails no test.
use Rattle.std.proofs.Common.{◌≡◌, ℕ, None}
use Rattle.bridge_limits.specs.Members.{IsMember}
use Rattle.bridge_filter.specs.declared.FilterPlan.{FilterPlan}
use Rattle.bridge_filter.specs.OwnEvents.{HasOwnInstances}
use Rattle.bridge_config.specs.Model.{Plan}
use Rattle.bridge_config.specs.Rules.{IsPlan}
use Rattle.bridge_check.specs.Acceptable.{IsIsolated}
use Rattle.bridge_check.specs.Faults.{filter_fault}
use Rattle.bridge_check.proofs.Isolated.{isolated}
use Rattle.bridge_check.proofs.Apart as check
use Rattle.bridge_semantics.specs.Events.{plan_police}

-- Holds if filter `f` with number `s` is in plan `p` and fails no test.
pub record IsSafe {A : Type 0} (p : Plan A) (s : ℕ) (f : FilterPlan) : Type 0 where
  pub plan : IsPlan p
  pub listed : IsMember (s, f) p.filters
  pub passes : filter_fault p s f ≡ None

pub alone : {A : Type 0} (p : Plan A) (s : ℕ) (f : FilterPlan) → IsSafe p s f → IsIsolated p s f
alone p s f safe = isolated p s f safe.plan safe.listed safe.passes

-- No other filter uses the stream gate or the meter of filter `f`.
pub apart : {A : Type 0} (p : Plan A) (s : ℕ) (f : FilterPlan) → IsSafe p s f → HasOwnInstances (plan_police p) s f
apart p s f safe = check.apart p s f safe.plan safe.listed safe.passes
