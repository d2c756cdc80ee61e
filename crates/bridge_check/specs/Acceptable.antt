-- Plans that isolate their protected filters and their groups.
use Rattle.std.specs.Prelude.{◌≡◌, ◌≤◌, ℕ, true, Some, None}
use Rattle.bridge_limits.specs.Members.{IsMember}
use Rattle.bridge_cycle.specs.Fits.{Fits}
use Rattle.bridge_frame.specs.Link.{transmission_time}
use Rattle.bridge_filter.specs.declared.FilterPlan.{FilterPlan}
use Rattle.bridge_port.specs.GateSchedule.{lists_can_fit, lists_open}
use Rattle.bridge_config.specs.declared.ports.PortPlan.{PortPlan}
use Rattle.bridge_config.specs.Model.{Plan}
use Rattle.bridge_config.specs.Rules.{find_port}
use Rattle.bridge_check.specs.Reach.{reaches_queue}
use Rattle.bridge_check.specs.Windows.{longest_frame}
use Rattle.bridge_check.specs.Faults.{filter_fault, is_in_group, member_fault}

-- Holds if each protected filter of plan `p` passes all eight tests of `check`.
abbrev pub IsAcceptable : {A : Type 0} → Plan A → Type 0
IsAcceptable p = (n : ℕ) (f : FilterPlan) → IsMember (n, f) p.filters → f.protected ≡ true → filter_fault p n f ≡ None

-- Holds if each grouped filter of plan `p` passes all eight tests of `check` with its group.
abbrev pub HasAcceptableGroups : {A : Type 0} → Plan A → Type 0
HasAcceptableGroups p = (k n : ℕ) (f : FilterPlan) → IsMember (n, f) p.filters → f.group ≡ Some k → member_fault p k n f ≡ None

-- A filter's isolation in terms of frames: filter `f` has stream gate, meter, queues and their windows for itself. The
-- filter's longest frame fits a window of each queue.
--
-- The filter names a stream handle and a maximum SDU, and the plan has a catch-all filter.
pub record IsIsolated {A : Type 0} (p : Plan A) (n : ℕ) (f : FilterPlan) : Type 0 where
  pub handle : (h : ℕ) × (f.handle ≡ Some h)
  pub max_sdu : (m : ℕ) × (f.max_sdu ≡ Some m)
  pub gate : (k : ℕ) (g : FilterPlan) → IsMember (k, g) p.filters → g.gate ≡ f.gate → k ≡ n
  pub meter : (k m : ℕ) (g : FilterPlan) → f.meter ≡ Some m → IsMember (k, g) p.filters → g.meter ≡ Some m → k ≡ n
  pub catches : (k : ℕ) × (g : FilterPlan) × IsMember (k, g) p.filters × (g.handle ≡ None) × (g.priority ≡ None) × ((j : ℕ) (e : FilterPlan) → IsMember (j, e) p.filters → j ≤ k)
  pub queue : (k q c : ℕ) (g : FilterPlan) → IsMember (k, g) p.filters → reaches_queue p f q c ≡ true → reaches_queue p g q c ≡ true → k ≡ n
  pub window : (q c : ℕ) (port : PortPlan A) → find_port p.ports q ≡ Some port → reaches_queue p f q c ≡ true → (d u : ℕ) → lists_open port.list c u ≡ true → lists_open port.list d u ≡ true → d ≡ c
  pub fits : (q c m : ℕ) (port : PortPlan A) → find_port p.ports q ≡ Some port → reaches_queue p f q c ≡ true → f.max_sdu ≡ Some m → (t : ℕ) × Fits (lists_open port.list c) (transmission_time (longest_frame m) port.speed) t

-- A grouped filter's isolation in terms of frames: the filter's gate, meter and windows serve no other filter, and its
-- queues serve group `k`. The filter's longest frame fits a window of each queue.
--
-- The filter names a stream handle and a maximum SDU, and the plan has a catch-all filter.
pub record IsIsolatedMember {A : Type 0} (p : Plan A) (k n : ℕ) (f : FilterPlan) : Type 0 where
  pub handle : (h : ℕ) × (f.handle ≡ Some h)
  pub max_sdu : (m : ℕ) × (f.max_sdu ≡ Some m)
  pub gate : (j : ℕ) (g : FilterPlan) → IsMember (j, g) p.filters → g.gate ≡ f.gate → j ≡ n
  pub meter : (j m : ℕ) (g : FilterPlan) → f.meter ≡ Some m → IsMember (j, g) p.filters → g.meter ≡ Some m → j ≡ n
  pub catches : (j : ℕ) × (g : FilterPlan) × IsMember (j, g) p.filters × (g.handle ≡ None) × (g.priority ≡ None) × ((i : ℕ) (e : FilterPlan) → IsMember (i, e) p.filters → i ≤ j)
  pub queue : (j q c : ℕ) (g : FilterPlan) → IsMember (j, g) p.filters → reaches_queue p f q c ≡ true → reaches_queue p g q c ≡ true → is_in_group k g.group ≡ true
  pub window : (q c : ℕ) (port : PortPlan A) → find_port p.ports q ≡ Some port → reaches_queue p f q c ≡ true → (d u : ℕ) → lists_open port.list c u ≡ true → lists_open port.list d u ≡ true → d ≡ c
  pub can_fit : (q c m : ℕ) (port : PortPlan A) → find_port p.ports q ≡ Some port → reaches_queue p f q c ≡ true → f.max_sdu ≡ Some m → lists_can_fit port.list c (transmission_time (longest_frame m) port.speed) ≡ true
  pub fits : (q c m : ℕ) (port : PortPlan A) → find_port p.ports q ≡ Some port → reaches_queue p f q c ≡ true → f.max_sdu ≡ Some m → (t : ℕ) × Fits (lists_open port.list c) (transmission_time (longest_frame m) port.speed) t
