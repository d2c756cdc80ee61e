-- One list merged from the stream gates of the filters that share a queue, and the delay bound by this list.
use Rattle.std.specs.Prelude.{◌≡◌, ◌≤◌, ◌+◌, ℕ, Bool, true, min, unwrap_or, List, [], ◌∷◌, Some, fold, sum_by, nat_eq, if◌then◌else◌}
use Rattle.std.specs.List.{list_any}
use Rattle.std.specs.Map.{lookup}
use Rattle.bridge_limits.specs.Members.{IsMember}
use Rattle.bridge_cycle.specs.Cyclic.{Cyclic, IsLawful, turn_by_time}
use Rattle.bridge_frame.specs.Link.{transmission_time}
use Rattle.bridge_gate.specs.declared.schedule.GateEntry.{GateEntry}
use Rattle.bridge_gate.specs.declared.schedule.GatePlan.{GatePlan}
use Rattle.bridge_gate.specs.declared.schedule.Schedule.TheVariants as scheduled
use Rattle.bridge_filter.specs.declared.FilterPlan.{FilterPlan}
use Rattle.bridge_port.specs.GateSchedule.{lists_open}
use Rattle.bridge_config.specs.declared.ports.PortPlan.{PortPlan}
use Rattle.bridge_config.specs.Model.{Plan}
use Rattle.bridge_check.specs.Windows.{longest_frame}
use Rattle.bridge_groups.specs.GateBounds.{are_limited}
use Rattle.bridge_groups.specs.GateIntervals.{gate_opens, last_opening, opening_work, turn_end, turn_limit}
use Rattle.bridge_groups.specs.IntervalWork.{IsIntervalBound}
use Rattle.bridge_groups.specs.Sharers.{longest_sdu}

-- True if at least one of the stream gates is open at time `t` in ns.
abbrev pub is_any_open : List (Cyclic GateEntry) → ℕ → Bool
is_any_open ls t = list_any (λ l. gate_opens l t) ls

-- The sum of the octet limits of the gates' intervals at time `t`. A closed gate adds 0.
abbrev pub limit_sum : List (Cyclic GateEntry) → ℕ → ℕ
limit_sum ls t = sum_by (λ l. turn_limit (turn_by_time l t)) ls

-- The earliest end in ns of the gates' intervals at time `t`, at most `until`.
abbrev pub first_end : List (Cyclic GateEntry) → ℕ → ℕ → ℕ
first_end ls t until = fold (λ m l. min m (turn_end (turn_by_time l t))) until ls

-- The octet limit of an entry; 0 if the entry is closed or has no limit.
abbrev pub entry_limit : GateEntry → ℕ
entry_limit e = if e.lets then unwrap_or e.octets 0 else 0

-- Holds if the entries fill the offsets from `from` to `until`. An entry is open if a gate is open, and ends at the latest with the first
-- of the gates' intervals.
--
-- Its octet limit is at least the sum of the gates' limits.
abbrev pub AreMergedEntries : List (Cyclic GateEntry) → List (GateEntry × ℕ) → ℕ → ℕ → Type 0
AreMergedEntries ls [] from until = from ≡ until
AreMergedEntries ls (e ∷ es) from until = (1 ≤ e.1) × (is_any_open ls from ≡ true → e.0.lets ≡ true) × (limit_sum ls from ≤ entry_limit e.0) × ((l : Cyclic GateEntry) → IsMember l ls → from + e.1 ≤ turn_end (turn_by_time l from)) × AreMergedEntries ls es (from + e.1) until

-- Holds if list `m` covers the lists `ls`: it is open while a gate is open, with at least the sum of the limits. While `m` is open, gates
-- change only at openings of `m`.
pub record IsMergedList (ls : List (Cyclic GateEntry)) (m : Cyclic GateEntry) : Type 0 where
  pub lawful : IsLawful m
  pub opens : (t : ℕ) (l : Cyclic GateEntry) → IsMember l ls → gate_opens l t ≡ true → gate_opens m t ≡ true
  pub limit : (t : ℕ) → limit_sum ls t ≤ turn_limit (turn_by_time m t)
  pub same : (t u : ℕ) (l : Cyclic GateEntry) → IsMember l ls → gate_opens m t ≡ true → last_opening m t ≤ u → u ≤ t → turn_by_time l u ≡ turn_by_time l t

-- Holds if the valid list `l` is the list of the filter's stream gate, and each of its open entries has an octet limit.
pub record IsGateList {A : Type 0} (p : Plan A) (f : FilterPlan) (l : Cyclic GateEntry) : Type 0 where
  pub gate : GatePlan A
  pub gated : lookup (nat_eq f.gate) p.gates ≡ Some gate
  pub schedule : gate.schedule ≡ scheduled.Cyclic l
  pub limited : are_limited l.entries ≡ true
  pub lawful : IsLawful l

-- Holds if `ls` has the list of each filter's stream gate, in the order of the filters.
abbrev pub AreGateLists : {A : Type 0} → Plan A → List (ℕ × FilterPlan) → List (Cyclic GateEntry) → Type 0
AreGateLists p [] [] = Unit {0}
AreGateLists p (g ∷ gs) [] = ⊥
AreGateLists p [] (l ∷ ls) = ⊥
AreGateLists p (g ∷ gs) (l ∷ ls) = IsGateList p g.1 l × AreGateLists p gs ls

-- Holds if `b` ns bounds the delays of the class-`c` queue at port `out` by its filters' stream gates. SDUs have at least `k` octets; `k`
-- is 1 to 44.
pub record IsGatesBound {A : Type 0} (p : Plan A) (out : PortPlan A) (sharers : List (ℕ × FilterPlan)) (c k b : ℕ) : Type 0 where
  pub some : 1 ≤ k
  pub few : k ≤ 44
  pub lists : List (Cyclic GateEntry)
  pub are : AreGateLists p sharers lists
  pub merged : Cyclic GateEntry
  pub is_merged : IsMergedList lists merged
  pub is : IsIntervalBound (lists_open out.list c) (gate_opens merged) (transmission_time (longest_frame (longest_sdu sharers)) out.speed) (transmission_time 60 out.speed) (last_opening merged) (opening_work merged (transmission_time 60 out.speed) k) b
