-- Filters of a group that are isolated by themselves: the stream gates at their queues are apart in time.
use Rattle.std.specs.Prelude.{◌≡◌, ℕ, true, Some}
use Rattle.bridge_filter.specs.declared.FilterPlan.{FilterPlan}
use Rattle.bridge_config.specs.declared.ports.PortPlan.{PortPlan}
use Rattle.bridge_config.specs.Model.{Plan}
use Rattle.bridge_config.specs.Rules.{find_port}
use Rattle.bridge_check.specs.Reach.{reaches_queue}
use Rattle.bridge_semantics.specs.Groups.{IsGroupMember}
use Rattle.bridge_groups.specs.SharedQueues.{IsRowOf}
use Rattle.bridge_groups.specs.declared.shared_queues.SharedQueue.{SharedQueue}

-- Holds if group `group` shares the queue of class `c` at port `q`, and the stream gates of the filters that share it are apart in time
-- by the row's bound.
pub record HasApartQueue {A : Type 0} (p : Plan A) (group q c : ℕ) : Type 0 where
  pub row : SharedQueue
  pub is_row : IsRowOf p group q c row
  pub apart : row.is_apart ≡ true

-- Holds if filter `n` is in the group, and each queue that it can reach has stream gates that are apart in time.
pub record IsApartMember {A : Type 0} (p : Plan A) (group n : ℕ) (f : FilterPlan) : Type 0 where
  pub member : IsGroupMember p group n f
  pub queues : (q c : ℕ) (out : PortPlan A) → find_port p.ports q ≡ Some out → reaches_queue p f q c ≡ true → HasApartQueue p group q c
