-- The delay bounds of a filter's ports: bounds of a protected filter, or bounds of the queues that its group shares.
use Rattle.std.specs.Prelude.{◌≡◌, ℕ, ◌+◌, ◌&&◌, nat_eq, Option, None, Some, MatchOption, List, fold, length, slice_get, if◌then◌else◌}
use Rattle.std.specs.Map.{lookup}
use Rattle.bridge_filter.specs.declared.FilterPlan.{FilterPlan}
use Rattle.bridge_config.specs.Model.{Plan}
use Rattle.bridge_groups.specs.GroupRows.{AreSharedQueues}
use Rattle.bridge_groups.specs.SharedQueues.{least_shared_bound}
use Rattle.bridge_groups.specs.declared.shared_queues.SharedQueue.{SharedQueue}
use Rattle.show_tables.specs.PortBounds.{ArePortBounds, greater_bound}

-- The group of an optional filter; `None` if the filter is missing or in no group.
abbrev pub group_of : Option FilterPlan → Option ℕ
group_of None = None
group_of (Some f) = f.group

-- The least bound of shared queue `s` in ns if it is a queue of the group at port `q`, otherwise `None`.
abbrev pub bound_at : ℕ → ℕ → SharedQueue → Option ℕ
bound_at group q s = if nat_eq s.group group && nat_eq s.port q then Some (least_shared_bound s) else None

-- The greater of an optional bound and the bound of shared queue `s`, if `s` is a queue of the group at port `q`.
abbrev pub greater_at : ℕ → ℕ → Option ℕ → SharedQueue → Option ℕ
greater_at group q bound s = greater_bound bound (bound_at group q s)

-- The greatest bound in ns of the queues that the group shares at port `q`; `None` if the group shares no queue there.
abbrev pub group_bound : List SharedQueue → ℕ → ℕ → Option ℕ
group_bound queues group q = fold (greater_at group q) None queues

-- Holds if the list has the group's bounds, by port from 1.
abbrev pub AreGroupBoundsByPort : List SharedQueue → ℕ → List (Option ℕ) → Type 0
AreGroupBoundsByPort queues group bounds = (i : ℕ) (b : Option ℕ) → slice_get bounds i ≡ Some b → b ≡ group_bound queues group (i + 1)

-- Holds if the list has the group's bounds at ports 1 to 16.
pub record AreGroupBounds (queues : List SharedQueue) (group : ℕ) (bounds : List (Option ℕ)) : Type 0 where
  pub many : length bounds ≡ 16
  pub all : AreGroupBoundsByPort queues group bounds

-- Holds if the list has bounds of the group at ports 1 to 16, from the shared queues of the plan.
abbrev pub AreMemberBounds : {A : Type 0} → Plan A → List (Option ℕ) → ℕ → Type 0
AreMemberBounds p bounds group = (queues : List SharedQueue) × AreSharedQueues p queues × AreGroupBounds queues group bounds

-- Holds if the list has the delay bounds of ports 1 to 16 for filter `n`: its group's bounds, if it is in a group.
abbrev pub AreFilterBounds : {A : Type 0} → Plan A → ℕ → List (Option ℕ) → Type 0
AreFilterBounds p n bounds = MatchOption (group_of (lookup (nat_eq n) p.filters)) (ArePortBounds p n bounds) (AreMemberBounds p bounds)
