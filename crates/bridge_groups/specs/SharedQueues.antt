-- Delay bounds and capacities of the queues that a plan's groups share.
use Rattle.std.specs.Prelude.{◌≡◌, ◌⊎◌, ◌≤◌, ℕ, Bool, true, ◌+◌, min, nat_lt, List, Option, None, Some, IfSome, if◌then◌else◌}
use Rattle.bridge_cycle.specs.ChangingList.{Joined}
use Rattle.bridge_cycle.specs.declared.gate_control_lists.Egress.{Egress}
use Rattle.bridge_frame.specs.declared.Speed.{Speed}
use Rattle.bridge_frame.specs.Link.{transmission_time}
use Rattle.bridge_filter.specs.declared.FilterPlan.{FilterPlan}
use Rattle.bridge_port.specs.GateSchedule.{Changing, gate_schedule, list_opens, lists_open}
use Rattle.bridge_config.specs.declared.ports.PortPlan.{PortPlan}
use Rattle.bridge_config.specs.Model.{Plan}
use Rattle.bridge_config.specs.Rules.{find_port}
use Rattle.bridge_check.specs.Windows.{longest_frame}
use Rattle.bridge_semantics.specs.Groups.{IsGroupQueue}
use Rattle.bridge_semantics.specs.Offers.{egress_rules}
use Rattle.bridge_bounds.specs.Bounds.{IsRoomBound}
use Rattle.bridge_groups.specs.Work.{IsDelayBound, IsSufficientRoom}
use Rattle.bridge_groups.specs.CostCurves.{HasLongStarts, sharers_cost_curve}
use Rattle.bridge_groups.specs.Curves.{sharers_curve, sharers_frame_limit}
use Rattle.bridge_groups.specs.ApartGates.{AreGatesApart}
use Rattle.bridge_groups.specs.MergedGates.{IsGatesBound}
use Rattle.bridge_groups.specs.Sharers.{are_metered, longest_sdu, queue_sharers}
use Rattle.bridge_groups.specs.declared.shared_queues.SharedQueue.{SharedQueue}

-- Holds if delay bound `b` (ns) is the sum of the old list's bound, `occ` ns, and the new list's bound. The curve for the new list is
-- shifted by the other two times.
pub record IsSumOfBounds (lists : Joined ℕ) (c occ least : ℕ) (curve : ℕ → ℕ) (b : ℕ) : Type 0 where
  pub before : ℕ
  pub after : ℕ
  pub old_bound : IsDelayBound (list_opens lists.old c) occ least curve before
  pub new_bound : IsDelayBound (list_opens lists.new c) occ least (λ w. curve (w + (before + occ))) after
  pub sum : b ≡ (before + occ) + after

-- Holds if the port has a schedule change, and delay bound `b` (ns) is the sum of bounds over its two lists.
pub record IsChangeBound {A : Type 0} (list : Option (Egress A)) (c occ least : ℕ) (curve : ℕ → ℕ) (b : ℕ) : Type 0 where
  pub lists : Joined ℕ
  pub changes : gate_schedule list ≡ Changing lists
  pub sum : IsSumOfBounds lists c occ least curve b

-- Holds if `b` ns bounds the delays of a queue with arrival curve `curve` under the port's lists `list`. At a schedule
-- change, `b` may be the sum of two lists' bounds.
abbrev pub IsListsBound : {A : Type 0} → Option (Egress A) → ℕ → ℕ → ℕ → (ℕ → ℕ) → ℕ → Type 0
IsListsBound list c occ least curve b = IsDelayBound (lists_open list c) occ least curve b ⊎ IsChangeBound list c occ least curve b

-- Holds if `b` ns bounds the delays of the class-`c` queue at port `out` by the meters of the filters that share it.
pub record IsMeterBound {A : Type 0} (p : Plan A) (out : PortPlan A) (sharers : List (ℕ × FilterPlan)) (c b : ℕ) : Type 0 where
  pub metered : are_metered sharers ≡ true
  pub bound : IsListsBound out.list c (transmission_time (longest_frame (longest_sdu sharers)) out.speed) (transmission_time 60 out.speed) (sharers_curve p sharers out.speed) b

-- Holds if `b` ns bounds the delays of a queue with open times `opens` by costs. The bound counts fits of `fit` ns, and
-- longer frames of up to `long` ns cost more.
pub record IsWindowCostBound {A : Type 0} (p : Plan A) (sharers : List (ℕ × FilterPlan)) (speed : Speed) (opens : ℕ → Bool) (long b : ℕ) : Type 0 where
  pub fit : ℕ
  pub shortest : transmission_time 60 speed ≤ fit
  pub starts : HasLongStarts opens fit long
  pub bound : IsDelayBound opens fit (transmission_time 60 speed) (sharers_cost_curve p fit speed sharers) b

-- Holds if `b` ns bounds the delays of the class-`c` queue at port `out` by costs: of the frames that its filters' meters
-- pass.
pub record IsCostBound {A : Type 0} (p : Plan A) (out : PortPlan A) (sharers : List (ℕ × FilterPlan)) (c b : ℕ) : Type 0 where
  pub metered : are_metered sharers ≡ true
  pub bound : IsWindowCostBound p sharers out.speed (lists_open out.list c) (transmission_time (longest_frame (longest_sdu sharers)) out.speed) b

-- Holds if `b` ns bounds a queue's delays by one of three: its filters' meters, the costs of their frames, or its
-- capacity.
abbrev pub IsSharedBound : {A : Type 0} → Plan A → PortPlan A → List (ℕ × FilterPlan) → ℕ → ℕ → Type 0
IsSharedBound p out sharers c b = IsMeterBound p out sharers c b ⊎ (IsCostBound p out sharers c b ⊎ IsRoomBound out c (longest_sdu sharers) b)

-- Holds if a capacity of `room` frames suffices for the class-`c` queue at port `out`, by the meters of the filters that share it.
pub record IsSharedRoom {A : Type 0} (p : Plan A) (out : PortPlan A) (sharers : List (ℕ × FilterPlan)) (c room : ℕ) : Type 0 where
  pub metered : are_metered sharers ≡ true
  pub sufficient : IsSufficientRoom (lists_open out.list c) (transmission_time (longest_frame (longest_sdu sharers)) out.speed) (transmission_time 60 out.speed) (sharers_curve p sharers out.speed) (sharers_frame_limit p sharers) room

-- The lesser of a bound and an optional bound.
abbrev pub lesser_bound : ℕ → Option ℕ → ℕ
lesser_bound b None = b
lesser_bound b (Some g) = min b g

-- The least delay bound in ns of a shared queue for any capture: by meters, costs, capacity or stream gates.
abbrev pub least_shared_bound : SharedQueue → ℕ
least_shared_bound s = lesser_bound s.bound s.by_gates

-- Holds if row `s` describes a shared queue: delay bound, capacity, and a sufficient capacity if one is known. If `s.is_metered` is true,
-- the meters give a bound. Further bounds follow from the stream gates.
--
-- If `s.is_apart` is true, the stream gates are apart in time by the least bound.
pub record IsSharedQueue {A : Type 0} (p : Plan A) (s : SharedQueue) : Type 0 where
  pub out : PortPlan A
  pub at : find_port p.ports s.port ≡ Some out
  pub reached : IsGroupQueue p s.group s.port s.class
  pub bound : IsSharedBound p out (queue_sharers p s.group s.port s.class p.filters) s.class s.bound
  pub metered : s.is_metered ≡ true → (b : ℕ) × IsMeterBound p out (queue_sharers p s.group s.port s.class p.filters) s.class b
  pub room : IfSome s.room (IsSharedRoom p out (queue_sharers p s.group s.port s.class p.filters) s.class)
  pub capacity : s.capacity ≡ (egress_rules out).room s.class
  pub by_gates : IfSome s.by_gates (IsGatesBound p out (queue_sharers p s.group s.port s.class p.filters) s.class 2)
  pub padded : IfSome s.padded (IsGatesBound p out (queue_sharers p s.group s.port s.class p.filters) s.class 44)
  pub apart : s.is_apart ≡ true → AreGatesApart p (queue_sharers p s.group s.port s.class p.filters) (least_shared_bound s)

-- Holds if row `s` describes the queue of class `c` at port `q`, which the group shares.
pub record IsRowOf {A : Type 0} (p : Plan A) (group q c : ℕ) (s : SharedQueue) : Type 0 where
  pub is : IsSharedQueue p s
  pub group_is : s.group ≡ group
  pub port_is : s.port ≡ q
  pub class_is : s.class ≡ c

-- The optional bound if it is less than `b`, otherwise `None`.
abbrev pub bound_below : ℕ → Option ℕ → Option ℕ
bound_below b None = None
bound_below b (Some g) = if nat_lt g b then Some g else None

-- The delay bound in ns of a shared queue for frames of at least 60 octets, if it is less than `least_shared_bound`.
abbrev pub padded_shared_bound : SharedQueue → Option ℕ
padded_shared_bound s = bound_below (least_shared_bound s) s.padded

-- True if the stream gates give the least bound.
abbrev pub is_bounded_by_gates : SharedQueue → Bool
is_bounded_by_gates s = nat_lt (least_shared_bound s) s.bound
