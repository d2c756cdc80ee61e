-- Times at which the frames of a periodic talker have left a queue, and their delays.
use Rattle.std.specs.Prelude.{◌≡◌, ℕ, true, ◌+◌, ◌-◌, ◌<◌, ◌≤◌, min, MatchOption}
use Rattle.bridge_cycle.specs.Fits.{IsFirstFit}
use Rattle.bridge_frame.specs.Link.{transmission_time}
use Rattle.bridge_port.specs.GateSchedule.{GateSchedule, gate_schedule, opens}
use Rattle.bridge_port.specs.Schedule.{Copy, PortRules, Started}
use Rattle.bridge_port.specs.Solo.{IsSolo}
use Rattle.std.specs.Prelude.{[], ◌∷◌}
use Rattle.bridge_config.specs.Model.{Plan}
use Rattle.bridge_config.specs.declared.ports.PortPlan.{PortPlan}
use Rattle.bridge_check.specs.Windows.{longest_frame}
use Rattle.bridge_semantics.specs.Offers.{CarriedFrame}
use Rattle.bridge_bounds.specs.Bounds.{IsQueueBound}
use Rattle.bridge_bounds.specs.Latency.{IsMultiple, link_time}
use Rattle.bridge_bounds.specs.declared.traffic.Traffic.{Traffic}
use Rattle.bridge_bounds.specs.declared.timing.Phases.{Phases}
use Rattle.bridge_bounds.specs.declared.timing.Timing.{Timing}
use Rattle.bridge_bounds.specs.Waits.{IsLongestWait, IsShortestWait, has_period}

-- Transmission time in ns, at port `out`, of the shortest frame of traffic `t`, limited to the longest frame with `m`
-- SDU octets.
abbrev pub shortest_link_time : {A : Type 0} → PortPlan A → ℕ → Traffic → ℕ
shortest_link_time out m t = transmission_time (min t.least (longest_frame m)) out.speed

-- Transmission time in ns, at port `out`, of the longest frame of traffic `t`, limited to the longest frame with `m`
-- SDU octets.
abbrev pub longest_link_time : {A : Type 0} → PortPlan A → ℕ → Traffic → ℕ
longest_link_time out m t = transmission_time (min t.longest (longest_frame m)) out.speed

-- Holds if `done` has the earliest and the latest end of transmission, in ns from the period's start. They belong to a
-- shortest frame at phase `t.from` and a longest frame at `t.to`.
pub record ArePhases (o : GateSchedule) (c short long : ℕ) (t : Traffic) (done : Phases) : Type 0 where
  pub first : ℕ
  pub last : ℕ
  pub repeats : has_period t.period o ≡ true
  pub is_first : IsFirstFit (opens o c) short t.from first
  pub is_last : IsFirstFit (opens o c) long t.to last
  pub from : done.from ≡ first + short
  pub to : done.to ≡ last + long
  pub through : last + long ≤ t.from + t.period

-- Holds if the schedule doesn't repeat with the period, or a longest frame arriving at phase `t.to` ends after the next
-- period's phase `t.from`.
abbrev pub HaveNoPhases : GateSchedule → ℕ → ℕ → Traffic → Type 0
HaveNoPhases o c long t =
    has_period t.period o ≡ true → (last : ℕ) → IsFirstFit (opens o c) long t.to last → t.from + t.period < last + long

-- Holds if timing `x` follows from the phases `done`, the waits and `bound`. The worst delay is the least of `bound`, `done.to` - `t.from`,
-- and the longest wait plus a longest frame.
pub record IsTimingWithPhases (o : GateSchedule) (c short long bound : ℕ) (t : Traffic) (x : Timing) (done : Phases) : Type 0 where
  pub phases : ArePhases o c short long t done
  pub longest : ℕ
  pub shortest : ℕ
  pub is_longest : IsLongestWait (opens o c) long t.from t.to longest
  pub is_shortest : IsShortestWait (opens o c) short t.from t.to shortest
  pub worst : x.worst ≡ min bound (min (done.to - t.from) (longest + long))
  pub best : x.best ≡ shortest + short

-- Holds if the ends of transmission have no phases, and timing `x` has the worst delay `bound` and the best delay `short`, in ns.
pub record IsTimingWithoutPhases (o : GateSchedule) (c short long bound : ℕ) (t : Traffic) (x : Timing) : Type 0 where
  pub phases : HaveNoPhases o c long t
  pub worst : x.worst ≡ bound
  pub best : x.best ≡ short

-- Holds if `x` has the worst and the best delay in ns of traffic `t` in class `c` at port `out`. If `x` has phases, `IsTimingWithPhases`
-- defines the delays, otherwise `IsTimingWithoutPhases`.
abbrev pub IsPortTiming : {A : Type 0} → PortPlan A → ℕ → ℕ → ℕ → Traffic → Timing → Type 0
IsPortTiming out c m bound t x =
    MatchOption x.phases (IsTimingWithoutPhases (gate_schedule out.list) c (shortest_link_time out m t) (longest_link_time out m t) bound t x)
    (IsTimingWithPhases (gate_schedule out.list) c (shortest_link_time out m t) (longest_link_time out m t) bound t x)

-- Holds if `x` has the worst and the best delay in ns of traffic `t` of filter `n` in class `c` at port `q`.
-- Delays count from arrival to the end of transmission, gap included.
pub record IsTiming {A : Type 0} (p : Plan A) (n q c : ℕ) (t : Traffic) (x : Timing) : Type 0 where
  pub bound : ℕ
  pub is_bound : IsQueueBound p n q c bound
  pub is : IsPortTiming is_bound.out c is_bound.max_sdu bound t x

-- RUNS

-- Holds if copy `y`, started at `start`, has a delay from arrival to end of transmission of at least `x.best` and at
-- most `x.worst` ns.
pub record IsDelayInBounds {A : Type 0} (out : PortPlan A) (x : Timing) (y : Copy CarriedFrame) (start : ℕ) : Type 0 where
  pub best : y.at + x.best ≤ start + link_time out y.item
  pub worst : start + link_time out y.item ≤ y.at + x.worst

-- Holds if copy `y` arrived between the phases of `t` in some period, and ended its transmission between the phases
-- `done` of that period.
pub record IsDoneInPhases {A : Type 0} (out : PortPlan A) (t : Traffic) (done : Phases) (y : Copy CarriedFrame) : Type 0 where
  pub start : ℕ
  pub period_start : ℕ
  pub started : y.fate ≡ Started start
  pub multiple : IsMultiple t.period period_start
  pub first : t.from + period_start ≤ y.at
  pub last : y.at ≤ t.to + period_start
  pub from : done.from + period_start ≤ start + link_time out y.item
  pub to : start + link_time out y.item ≤ done.to + period_start

-- Holds if a copy that arrives alone at an empty queue at time `at` has left at time `done`.
pub record IsDoneIfAlone {X : Type 0} (r : PortRules X) (c : ℕ) (item : X) (at done : ℕ) : Type 0 where
  pub copy : Copy X
  pub start : ℕ
  pub class : copy.class ≡ c
  pub carries : copy.item ≡ item
  pub offered : copy.at ≡ at
  pub solo : IsSolo r (copy ∷ [])
  pub started : copy.fate ≡ Started start
  pub is_done : done ≡ start + r.occ item
