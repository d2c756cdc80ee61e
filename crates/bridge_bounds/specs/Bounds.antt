-- Delay bounds of a queue, for frames that leave one after another.
use Rattle.std.specs.Prelude.{◌∷◌, ◌≡◌, ℕ, zero, suc, Bool, true, false, ◌+◌, ◌-◌, ◌≤◌, ◌⊎◌, min, nat_eq, List, MatchOption, Option, None, Some}
use Rattle.std.specs.Map.{lookup}
use Rattle.bridge_limits.specs.Members.{IsMember}
use Rattle.bridge_cycle.specs.Cyclic as cyclic
use Rattle.bridge_cycle.specs.Fits.{Fits, IsFirstFit}
use Rattle.bridge_cycle.specs.declared.gate_control_lists.Egress.{Egress}
use Rattle.bridge_cycle.specs.declared.gate_control_lists.Egress.TheVariants as egress
use Rattle.bridge_frame.specs.Link.{transmission_time}
use Rattle.bridge_gate.specs.declared.schedule.GateEntry.{GateEntry}
use Rattle.bridge_gate.specs.declared.schedule.GatePlan.{GatePlan}
use Rattle.bridge_gate.specs.declared.schedule.Schedule.{Schedule}
use Rattle.bridge_gate.specs.declared.schedule.Schedule.TheVariants.{Cyclic, Fixed, Joined}
use Rattle.bridge_filter.specs.declared.FilterPlan.{FilterPlan}
use Rattle.bridge_port.specs.GateSchedule.{Always, Changing, One, GateSchedule, gate_schedule, opens, lists_open}
use Rattle.bridge_port.specs.Schedule.{Copy, AreOffersInOrder, PortRules, Started}
use Rattle.bridge_port.specs.Solo.{IsSolo}
use Rattle.bridge_config.specs.declared.ports.PortPlan.{PortPlan}
use Rattle.bridge_config.specs.Model.{Plan}
use Rattle.bridge_config.specs.Rules.{find_port}
use Rattle.bridge_check.specs.Reach.{reaches_queue}
use Rattle.bridge_check.specs.Windows.{longest_frame}
use Rattle.bridge_semantics.specs.Offers.{egress_rules}
use Rattle.bridge_bounds.specs.GateFrames.{AreTurnsApart, frames_below_room, max_list_frames}
use Rattle.bridge_bounds.specs.Openings.{HaveCommonCycle, fills_at}

-- Holds if `k` frames of `occ` ns each, which wait from time `u` and leave one after another, have left at time `v`.
--
-- Each frame starts at its first fit. The transmission gate is open when `opens` is true.
abbrev pub FramesEnd : (ℕ → Bool) → ℕ → ℕ → ℕ → ℕ → Type 0
FramesEnd opens occ zero u v = v ≡ u
FramesEnd opens occ (suc k) u v = (w s : ℕ) × FramesEnd opens occ k u w × IsFirstFit opens occ w s × (v ≡ s + occ)

-- Holds if, for every time `u`, the last of `k` frames of `occ` ns each, waiting from `u`, ends by `u` + `d` ns. The
-- transmission gate is open when `opens` is true.
abbrev pub IsLongestTime : (ℕ → Bool) → ℕ → ℕ → ℕ → Type 0
IsLongestTime opens occ k d = (u : ℕ) → (v : ℕ) × FramesEnd opens occ k u v × (v ≤ u + d)

-- Holds if, for some time `u`, the last of `k` frames of `occ` ns each, waiting from `u`, ends exactly at `u` + `d` ns.
abbrev pub IsTimeAttained : (ℕ → Bool) → ℕ → ℕ → ℕ → Type 0
IsTimeAttained opens occ k d = (u : ℕ) × FramesEnd opens occ k u (u + d)

-- Holds if `d` ns is the longest time in which `k` frames of `occ` ns each leave one after another. They begin to wait
-- together at a time from `from` to `to`, both included.
pub record IsLongestTimeBetween (opens : ℕ → Bool) (occ k from to d : ℕ) : Type 0 where
  pub longest : (u v : ℕ) → from ≤ u → u ≤ to → FramesEnd opens occ k u v → v ≤ u + d
  pub attained : (u : ℕ) × (from ≤ u) × (u ≤ to) × FramesEnd opens occ k u (u + d)

-- Holds if, for every time `u` at which `lets` is true, `k` frames of `occ` ns each leave within `d` ns. They wait from
-- `late` ns after `u` on.
abbrev pub IsLongestTimeFrom : (ℕ → Bool) → (ℕ → Bool) → ℕ → ℕ → ℕ → ℕ → Type 0
IsLongestTimeFrom lets opens occ late k d = (u : ℕ) → lets u ≡ true → (v : ℕ) × FramesEnd opens occ k (u + late) v × (v ≤ u + late + d)

-- Holds if, for some time `u` at which `lets` is true, `k` frames need exactly `d` ns. They wait from `late` ns after
-- `u` on.
abbrev pub IsTimeAttainedFrom : (ℕ → Bool) → (ℕ → Bool) → ℕ → ℕ → ℕ → ℕ → Type 0
IsTimeAttainedFrom lets opens occ late k d = (u : ℕ) × (lets u ≡ true) × FramesEnd opens occ k (u + late) (u + late + d)

-- Holds if `d` ns is the longest time in which `k` frames leave after a time at which `lets` is true.
--
-- The frames wait from `occ` - 1 ns after that time on, when the frame on the link has left.
pub record IsOpeningsTime (lets opens : ℕ → Bool) (occ k d : ℕ) : Type 0 where
  pub longest : IsLongestTimeFrom lets opens occ (occ - 1) k d
  pub attained : IsTimeAttainedFrom lets opens occ (occ - 1) k d

-- Holds if `k` frames of class `c` and `occ` ns each, waiting from some time, need exactly `d` ns under the schedule.
--
-- So no lesser time is a longest time. With a schedule change, the statement always holds.
abbrev pub IsLeastTime : GateSchedule → ℕ → ℕ → ℕ → ℕ → Type 0
IsLeastTime Always c occ k d = IsTimeAttained (opens Always c) occ k d
IsLeastTime (One l) c occ k d = IsTimeAttained (opens (One l) c) occ k d
IsLeastTime (Changing j) c occ k d = Unit {0}

-- Holds if a frame of `occ` ns fits at time `c` and doesn't fit 1 ns later.
pub record IsEdge (opens : ℕ → Bool) (occ c : ℕ) : Type 0 where
  pub fits : Fits opens occ c
  pub last : ¬ Fits opens occ (c + 1)

-- Holds if the copies are of class `c` and have transmission times of at most `occ` ns.
abbrev pub HaveShortFrames : {X : Type 0} → PortRules X → ℕ → ℕ → List (Copy X) → Type 0
HaveShortFrames r c occ xs = (y : Copy _) → IsMember y xs → (y.class ≡ c) × (r.occ y.item ≤ occ)

-- Holds if a queue alone on its link has a copy that leaves `d` ns after the copy's offer. All its copies have
-- transmission times of at most `occ` ns.
pub record HasWorstCopy {X : Type 0} (r : PortRules X) (c occ d : ℕ) : Type 0 where
  pub copy : Copy X
  pub older : List (Copy X)
  pub start : ℕ
  pub solo : IsSolo r (copy ∷ older)
  pub order : AreOffersInOrder copy.at older
  pub short : HaveShortFrames r c occ (copy ∷ older)
  pub started : copy.fate ≡ Started start
  pub done : start + r.occ copy.item ≡ copy.at + d

-- Holds if `b` ns is the longest time in which `k` longest frames leave, plus one transmission time, minus 1 ns. A longest frame has `m` +
-- 16 octets, but at most 9,216.
pub record IsFramesBound {A : Type 0} (out : PortPlan A) (c m k b : ℕ) : Type 0 where
  pub longest : ℕ
  pub is_longest : IsLongestTime (lists_open out.list c) (transmission_time (longest_frame m) out.speed) k longest
  pub is_least : IsLeastTime (gate_schedule out.list) c (transmission_time (longest_frame m) out.speed) k longest
  pub bound : b ≡ (transmission_time (longest_frame m) out.speed - 1) + longest

-- Holds if `b` ns is the delay bound by capacity of the class-`c` queue at port `out`, for SDUs of at most `m` octets.
abbrev pub IsRoomBound : {A : Type 0} → PortPlan A → ℕ → ℕ → ℕ → Type 0
IsRoomBound out c m b = IsFramesBound out c m ((egress_rules out).room c) b

-- Holds if `b` ns is the capacity bound of the class-`c` queue at port `out`, for frames that arrive while `lets` is true.
--
-- This bound is a full queue's longest time, plus one transmission time, minus 1 ns.
pub record IsOpeningsBound {A : Type 0} (lets : ℕ → Bool) (out : PortPlan A) (c m b : ℕ) : Type 0 where
  pub longest : ℕ
  pub is : IsOpeningsTime lets (lists_open out.list c) (transmission_time (longest_frame m) out.speed) ((egress_rules out).room c) longest
  pub bound : b ≡ (transmission_time (longest_frame m) out.speed - 1) + longest

-- Holds if `b` ns is the queue's delay bound under one list of the stream gate and one list of the port. With a common cycle, it assumes
-- arrivals only while `lets` is true.
--
-- Without a common cycle, or if `lets` is never true, `b` assumes arrivals at any time.
abbrev pub IsListBound : {A : Type 0} → cyclic.Cyclic GateEntry → cyclic.Cyclic ℕ → (ℕ → Bool) → PortPlan A → ℕ → ℕ → ℕ → Type 0
IsListBound gate list lets out c m b =
    (HaveCommonCycle gate list × (IsOpeningsBound lets out c m b ⊎ (((u : ℕ) → lets u ≡ false) × IsRoomBound out c m b)))
    ⊎ ((¬ HaveCommonCycle gate list) × IsRoomBound out c m b)

-- Holds if `b` ns is the queue's delay bound under one list of the stream gate. If the port has no list, or its list changes, `b` assumes
-- arrivals at any time.
abbrev pub IsGateListBound : {A : Type 0} → cyclic.Cyclic GateEntry → Option (Egress A) → (ℕ → Bool) → PortPlan A → ℕ → ℕ → ℕ → Type 0
IsGateListBound gate None lets out c m b = IsRoomBound out c m b
IsGateListBound gate (Some (egress.Cyclic list)) lets out c m b = IsListBound gate list lets out c m b
IsGateListBound gate (Some (egress.Joined j)) lets out c m b = IsRoomBound out c m b

-- Holds if `b` ns is the queue's delay bound under the stream gate's schedule, for a filter with the optional priority `priority`.
--
-- If the gate has a fixed state, or its list changes, `b` assumes arrivals at any time.
abbrev pub IsGateBound : {A : Type 0} → Schedule A → Option ℕ → PortPlan A → ℕ → ℕ → ℕ → Type 0
IsGateBound (Fixed lets ipv) priority out c m b = IsRoomBound out c m b
IsGateBound (Cyclic gate) priority out c m b = IsGateListBound gate out.list (fills_at out priority c gate) out c m b
IsGateBound (Joined j) priority out c m b = IsRoomBound out c m b

-- Holds if `b` ns bounds the delays of protected filter `n` in its reachable queue of class `c` at port `q`. A delay ends with the
-- transmission. `b` follows from the queue's capacity.
pub record IsQueueBound {A : Type 0} (p : Plan A) (n q c b : ℕ) : Type 0 where
  pub filter : FilterPlan
  pub max_sdu : ℕ
  pub out : PortPlan A
  pub found : lookup (nat_eq n) p.filters ≡ Some filter
  pub protected : filter.protected ≡ true
  pub size : filter.max_sdu ≡ Some max_sdu
  pub at : find_port p.ports q ≡ Some out
  pub reach : reaches_queue p filter q c ≡ true
  pub gate : GatePlan A
  pub gated : lookup (nat_eq filter.gate) p.gates ≡ Some gate
  pub is : IsGateBound gate.schedule filter.priority out c max_sdu b

-- Holds if the stream gate and the port have one list each, and both lists have no common cycle.
abbrev pub LackCommonCycle : {A : Type 0} → Schedule A → Option (Egress A) → Type 0
LackCommonCycle (Fixed lets ipv) lists = ⊥
LackCommonCycle (Cyclic gate) None = ⊥
LackCommonCycle (Cyclic gate) (Some (egress.Cyclic list)) = ¬ HaveCommonCycle gate list
LackCommonCycle (Cyclic gate) (Some (egress.Joined j)) = ⊥
LackCommonCycle (Joined j) lists = ⊥

-- Holds if the delay bounds of filter `n` at port `q` assume arrivals at any time. The reason is that its stream gate's list and the port's
-- list have no common cycle.
pub record IsCoarse {A : Type 0} (p : Plan A) (n q : ℕ) : Type 0 where
  pub filter : FilterPlan
  pub gate : GatePlan A
  pub out : PortPlan A
  pub found : lookup (nat_eq n) p.filters ≡ Some filter
  pub gated : lookup (nat_eq filter.gate) p.gates ≡ Some gate
  pub at : find_port p.ports q ≡ Some out
  pub lack : LackCommonCycle gate.schedule out.list

-- Holds if filter `n` has no delay bound for class `c` at port `q`: the filter is missing or unprotected, or this queue
-- is unreachable.
abbrev pub HasNoBound : {A : Type 0} → Plan A → ℕ → ℕ → ℕ → Type 0
HasNoBound p n q c = (f : FilterPlan) → lookup (nat_eq n) p.filters ≡ Some f → f.protected ≡ true → reaches_queue p f q c ≡ false

-- Holds if `b` ns is the lesser of bound `a` and the bound for `k` frames. If open intervals aren't apart by the longest time of `k`
-- frames, `b` is `a`.
pub record IsLesserBound {A : Type 0} (l : cyclic.Cyclic GateEntry) (out : PortPlan A) (c m k a b : ℕ) : Type 0 where
  pub few : ℕ
  pub is : IsFramesBound out c m k few
  pub lesser : (AreTurnsApart (cyclic.turn_by_time l) is.longest × (b ≡ min a few)) ⊎ ((¬ AreTurnsApart (cyclic.turn_by_time l) is.longest) × (b ≡ a))

-- Holds if bound `b` equals bound `a`. If a single gate list passes fewer frames per interval than the queue's
-- capacity, `b` may be lower: `IsLesserBound` defines it.
abbrev pub IsTightenedBound : {A : Type 0} → Schedule A → PortPlan A → ℕ → ℕ → ℕ → ℕ → Type 0
IsTightenedBound (Fixed lets ipv) out c m a b = b ≡ a
IsTightenedBound (Cyclic l) out c m a b = MatchOption (frames_below_room ((egress_rules out).room c) (max_list_frames l.entries)) (b ≡ a) (λ k. IsLesserBound l out c m k a b)
IsTightenedBound (Joined j) out c m a b = b ≡ a

-- Holds if `b` ns is the delay bound that `bounds` prints for the queue of class `c` at port `q`. The stream gate's
-- octet limits may lower the bound by capacity.
pub record IsTightBound {A : Type 0} (p : Plan A) (n q c b : ℕ) : Type 0 where
  pub by_room : ℕ
  pub is_bound : IsQueueBound p n q c by_room
  pub gate : GatePlan A
  pub gated : lookup (nat_eq is_bound.filter.gate) p.gates ≡ Some gate
  pub tightened : IsTightenedBound gate.schedule is_bound.out c is_bound.max_sdu by_room b
