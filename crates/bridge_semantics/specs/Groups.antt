-- Groups of stream filters that share queues: their own events, and the records that these events determine.
use Rattle.std.specs.Prelude.{◌≡◌, ℕ, Bool, true, false, ◌||◌, ◌&&◌, List, [], ◌∷◌, Option, Some, None, if◌then◌else◌}
use Rattle.std.specs.List.{list_any}
use Rattle.bridge_limits.specs.Members.{IsMember}
use Rattle.bridge_filter.specs.declared.FilterPlan.{FilterPlan}
use Rattle.bridge_filter.specs.Counts.{filter_buckets, filter_flags, filter_verdicts, verdict_counters}
use Rattle.bridge_port.specs.Schedule.{Copy}
use Rattle.bridge_config.specs.Model.{Plan}
use Rattle.bridge_check.specs.Reach.{reaches_queue}
use Rattle.bridge_check.specs.Faults.{is_in_group}
use Rattle.bridge_semantics.specs.declared.outcome.View.{View}
use Rattle.bridge_semantics.specs.Events.{Event, is_own_event, plan_police, police_steps}
use Rattle.bridge_semantics.specs.Offers.{CarriedFrame}
use Rattle.bridge_semantics.specs.Merge.{Input}

-- Holds if plan `p` has filter `f` with number `n`, and this filter is in the group.
pub record IsGroupMember {A : Type 0} (p : Plan A) (group n : ℕ) (f : FilterPlan) : Type 0 where
  pub listed : IsMember (n, f) p.filters
  pub grouped : f.group ≡ Some group

-- True if the event is a frame of the group, or a command that clears a flag of a member, its gate or its meter.
abbrev pub is_group_event : {A : Type 0} → Plan A → ℕ → Event → Bool
is_group_event p group e = list_any (λ g. is_in_group group g.1.group && is_own_event p g.0 g.1 e) p.filters

-- The group's own events, in list order: the own events of its filters.
abbrev pub group_events : {A : Type 0} → Plan A → ℕ → List Event → List Event
group_events p group [] = []
group_events p group (e ∷ es) = if is_group_event p group e then e ∷ group_events p group es else group_events p group es

-- The inputs whose events are the group's own, in list order.
abbrev pub group_inputs : {A : Type 0} → Plan A → ℕ → List Input → List Input
group_inputs p group [] = []
group_inputs p group (x ∷ xs) = if is_group_event p group x.event then x ∷ group_inputs p group xs else group_inputs p group xs

-- Holds if copy `x` belongs to a frame of a filter of the group.
pub record IsGroupCopy {A : Type 0} (p : Plan A) (group : ℕ) (x : Copy CarriedFrame) : Type 0 where
  pub number : ℕ
  pub filter : FilterPlan
  pub member : IsGroupMember p group number filter
  pub flow : x.item.flow ≡ Some number

-- Holds if the queue of class `c` at port `q` is reachable for a filter of the group.
pub record IsGroupQueue {A : Type 0} (p : Plan A) (group q c : ℕ) : Type 0 where
  pub number : ℕ
  pub filter : FilterPlan
  pub member : IsGroupMember p group number filter
  pub reaches : reaches_queue p filter q c ≡ true

-- Holds if record `v` has the verdicts, counters, flags and buckets that the events `es` give to filter `n`.
pub record IsPoliceRecord {A : Type 0} (p : Plan A) (n : ℕ) (f : FilterPlan) (es : List Event) (v : View A) : Type 0 where
  pub verdicts : v.verdicts.items ≡ filter_verdicts n (police_steps p es)
  pub counters : v.counters ≡ verdict_counters (filter_verdicts n (police_steps p es))
  pub flags : v.flags ≡ filter_flags (plan_police p) n f (police_steps p es)
  pub buckets : v.buckets ≡ filter_buckets (plan_police p) f.meter (police_steps p es)

-- Holds if two records have equal verdicts, counters, flags and buckets.
pub record HaveSamePoliceRecords {A : Type 0} (u v : View A) : Type 0 where
  pub verdicts : u.verdicts.items ≡ v.verdicts.items
  pub counters : u.counters ≡ v.counters
  pub flags : u.flags ≡ v.flags
  pub buckets : u.buckets ≡ v.buckets
