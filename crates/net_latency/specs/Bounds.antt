-- Delay bounds of a plan's queues, in their order.
use Rattle.std.specs.Prelude.{IfSome, ◌≡◌, ◌↔◌, ◌⊎◌, ℕ, true, ◌+◌, ◌-◌, ◌*◌, ◌<◌, ◌≤◌, Some, List, [], ◌∷◌, nat_eq, slice_get}
use Rattle.std.specs.Map.{lookup}
use Rattle.bridge_limits.specs.Members.{IsMember, IsOrdered}
use Rattle.bridge_filter.specs.declared.FilterPlan.{FilterPlan}
use Rattle.bridge_config.specs.Model.{Plan}
use Rattle.bridge_check.specs.declared.reach.Reach.{Reach}
use Rattle.bridge_check.specs.Reach.{reaches_queue}
use Rattle.bridge_check.specs.ReachTables.{filter_reach}
use Rattle.bridge_bounds.specs.Bounds.{IsCoarse, IsQueueBound}
use Rattle.bridge_groups.specs.GateBounds.{IsLeastBound, IsPaddedBound}
use Rattle.net_latency.specs.declared.bounds.QueueBound.{QueueBound}
use Rattle.net_latency.specs.declared.tight.TightBound.{TightBound}

-- The delay bound `b`, in ns, of filter `n` in the queue of class `c` at port `q`, as a record.
abbrev pub queue_bound : ℕ → ℕ → ℕ → ℕ → QueueBound
queue_bound n q c b = record { filter = n; port = q; class = c; bound = b }

-- The index of a queue among a filter's 128 queues: by port, then by class.
abbrev pub queue_index : ℕ → ℕ → ℕ
queue_index q c = (q - 1) * 8 + c

-- Holds if queue bound `a` precedes queue bound `b` in the list of bounds: by filter, then by port, then by class.
abbrev pub PrecedesQueue : QueueBound → QueueBound → Type 0
PrecedesQueue a b = (a.filter < b.filter) ⊎ ((a.filter ≡ b.filter) × (queue_index a.port a.class < queue_index b.port b.class))

-- Holds if `rows` has the delay bound of every reachable queue of protected filters, each once and in order.
pub record AreBounds {A : Type 0} (p : Plan A) (rows : List QueueBound) : Type 0 where
  pub rises : IsOrdered PrecedesQueue rows
  pub each : (r : QueueBound) → IsMember r rows → IsQueueBound p r.filter r.port r.class r.bound
  pub all : (n q c : ℕ) (f : FilterPlan) → lookup (nat_eq n) p.filters ≡ Some f → f.protected ≡ true → 1 ≤ q → q ≤ 16 → c < 8 → reaches_queue p f q c ≡ true
      → (b : ℕ) × IsMember (queue_bound n q c b) rows

-- Holds if row `t` has the queue of row `r`. Its bound holds for frames that have at most as many captured octets as
-- their length.
pub record HasLeastBound {A : Type 0} (p : Plan A) (r t : QueueBound) : Type 0 where
  pub filter : t.filter ≡ r.filter
  pub port : t.port ≡ r.port
  pub class : t.class ≡ r.class
  pub bound : IsLeastBound p r.filter r.port r.class t.bound

-- Holds if the second list has the queues of the first, row by row, with their least bounds.
abbrev pub AreLowered : {A : Type 0} → Plan A → List QueueBound → List QueueBound → Type 0
AreLowered p [] [] = Unit {0}
AreLowered p (r ∷ rs) (t ∷ ts) = HasLeastBound p r t × AreLowered p rs ts
AreLowered p rs ts = ⊥

-- Holds if `least` has the least bounds of all reachable queues of a plan, each once and in order.
abbrev pub AreLeastBounds : {A : Type 0} → Plan A → List QueueBound → Type 0
AreLeastBounds p least = (rows : List QueueBound) × AreBounds p rows × AreLowered p rows least

-- Holds if row `t` has the queue of row `r` and its bounds, and is marked exactly if the bound by capacity is coarse.
pub record HasTightBound {A : Type 0} (p : Plan A) (r : QueueBound) (t : TightBound) : Type 0 where
  pub filter : t.filter ≡ r.filter
  pub port : t.port ≡ r.port
  pub class : t.class ≡ r.class
  pub coarse : (t.coarse ≡ true) ↔ IsCoarse p r.filter r.port
  pub bound : IsLeastBound p r.filter r.port r.class t.bound
  pub padded : IfSome t.padded (IsPaddedBound p r.filter r.port r.class t.bound)

-- Holds if the second list has the queues of the first, row by row, with their tight bounds.
abbrev pub AreTightened : {A : Type 0} → Plan A → List QueueBound → List TightBound → Type 0
AreTightened p [] [] = Unit {0}
AreTightened p (r ∷ rs) (t ∷ ts) = HasTightBound p r t × AreTightened p rs ts
AreTightened p rs ts = ⊥

-- Holds if `tight` has the tight bounds of all reachable queues of a plan, in order.
abbrev pub AreTightBounds : {A : Type 0} → Plan A → List TightBound → Type 0
AreTightBounds p tight = (rows : List QueueBound) × AreBounds p rows × AreTightened p rows tight

-- Holds if a queue is of a port from 1 to 16 and a class from 0 to 7.
pub record HasValidPort (r : QueueBound) : Type 0 where
  pub from : 1 ≤ r.port
  pub to : r.port ≤ 16
  pub class : r.class < 8

-- Holds if queue `j` of filter `i` comes before queue `place` of filter `at`. All four are indexes. `AreBoundsSoFar`
-- uses it.
abbrev pub IsHandledQueue : ℕ → ℕ → ℕ → ℕ → Type 0
IsHandledQueue i j at place = (i < at) ⊎ ((i ≡ at) × (j < place))

-- Holds if `rows` has the bounds of all filters before index `at` in `order`, and of filter `at` for its queues before
-- index `place`.
pub record AreBoundsSoFar {A : Type 0} (p : Plan A) (order : List (ℕ × FilterPlan)) (at place : ℕ) (rows : List QueueBound) : Type 0 where
  pub rises : IsOrdered PrecedesQueue rows
  pub each : (r : QueueBound) → IsMember r rows → IsQueueBound p r.filter r.port r.class r.bound
  pub below : (r : QueueBound) → IsMember r rows → (i : ℕ) × (f : FilterPlan) × (slice_get order i ≡ Some (r.filter, f)) × IsHandledQueue i (queue_index r.port r.class) at place
  pub all : (i q c n : ℕ) (f : FilterPlan) → slice_get order i ≡ Some (n, f) → f.protected ≡ true → 1 ≤ q → q ≤ 16 → c < 8 → reaches_queue p f q c ≡ true
      → IsHandledQueue i (queue_index q c) at place → (b : ℕ) × IsMember (queue_bound n q c b) rows

-- Holds if `reach` is the reach of the filter with index `at`.
abbrev pub IsFilterReach : {A : Type 0} → Plan A → List (ℕ × FilterPlan) → ℕ → Reach → Type 0
IsFilterReach p order at reach = (x : ℕ × FilterPlan) → slice_get order at ≡ Some x → reach ≡ filter_reach p x.1
