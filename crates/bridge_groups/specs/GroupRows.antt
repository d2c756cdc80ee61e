-- The shared queues of all groups of a plan.
use Rattle.std.specs.Prelude.{◌≡◌, ◌⊎◌, ℕ, ◌+◌, ◌*◌, ◌-◌, ◌<◌, ◌≤◌, List, [], ◌∷◌, Option, Some, None, nat_le, if◌then◌else◌}
use Rattle.bridge_limits.specs.Members.{IsMember}
use Rattle.bridge_filter.specs.declared.FilterPlan.{FilterPlan}
use Rattle.bridge_filter.specs.Routes.{lesser_number}
use Rattle.bridge_config.specs.Model.{Plan}
use Rattle.bridge_semantics.specs.Groups.{IsGroupQueue}
use Rattle.bridge_groups.specs.SharedQueues.{IsRowOf, IsSharedQueue}
use Rattle.bridge_groups.specs.declared.shared_queues.SharedQueue.{SharedQueue}

-- Holds if `rows` has a row of each shared queue of the plan, and only such rows.
pub record AreSharedQueues {A : Type 0} (p : Plan A) (rows : List SharedQueue) : Type 0 where
  pub each : (s : SharedQueue) → IsMember s rows → IsSharedQueue p s
  pub all : (group q c : ℕ) → 1 ≤ q → q ≤ 16 → c < 8 → IsGroupQueue p group q c → (s : SharedQueue) × IsMember s rows × IsRowOf p group q c s

-- Holds if `rows` has a row of each shared queue of the groups below `from`. It also has a row of each shared queue of
-- group `from` with an index below `place`.
pub record AreRowsSoFar {A : Type 0} (p : Plan A) (from place : ℕ) (rows : List SharedQueue) : Type 0 where
  pub each : (s : SharedQueue) → IsMember s rows → IsSharedQueue p s
  pub all : (group q c : ℕ) → 1 ≤ q → q ≤ 16 → c < 8 → IsGroupQueue p group q c → (group < from) ⊎ ((group ≡ from) × ((q - 1) * 8 + c < place)) → (s : SharedQueue) × IsMember s rows × IsRowOf p group q c s

-- The optional group if it is present and at least `from`, otherwise `None`.
abbrev pub group_from : ℕ → Option ℕ → Option ℕ
group_from from None = None
group_from from (Some group) = if nat_le from group then Some group else None

-- The least group of the filters that is at least `from`; `None` if there is none.
abbrev pub least_group : ℕ → List (ℕ × FilterPlan) → Option ℕ
least_group from [] = None
least_group from (f ∷ fs) = lesser_number (group_from from f.1.group) (least_group from fs)
