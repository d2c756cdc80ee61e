-- Traffic of a plan's protected filters: faults compared with the plan, and delays in each queue.
use Rattle.std.specs.Prelude.{◌≡◌, ◌↔◌, ℕ, Bool, true, false, not, ◌+◌, ◌%◌, ◌&&◌, List, [], ◌∷◌, Option, None, Some, map, nat_eq, nat_le, if◌then◌else◌}
use Rattle.std.specs.List.{list_all}
use Rattle.std.specs.Map.{lookup}
use Rattle.std.specs.Option.{is_some}
use Rattle.bridge_cycle.specs.declared.gate_control_lists.Egress.{Egress}
use Rattle.bridge_cycle.specs.declared.gate_control_lists.Egress.TheVariants as egress
use Rattle.bridge_gate.specs.declared.schedule.GatePlan.{GatePlan}
use Rattle.bridge_gate.specs.declared.schedule.Schedule.{Schedule}
use Rattle.bridge_gate.specs.declared.schedule.Schedule.TheVariants as schedule
use Rattle.bridge_filter.specs.declared.FilterPlan.{FilterPlan}
use Rattle.bridge_port.specs.Schedule.{Copy, Started}
use Rattle.bridge_semantics.specs.Offers.{CarriedFrame}
use Rattle.bridge_config.specs.Model.{Plan}
use Rattle.bridge_config.specs.Rules.{find_port}
use Rattle.bridge_config.specs.declared.ports.PortPlan.{PortPlan}
use Rattle.bridge_check.specs.Reach.{some_number_passes, reaches_queue}
use Rattle.net_file.specs.declared.fault.NetField.{NetField}
use Rattle.net_file.specs.declared.fault.NetField.TheVariants as field
use Rattle.net_file.specs.declared.fault.NetFault.TheVariants as net
use Rattle.net_file.specs.declared.fault.NetKeyLocation.{NetKeyLocation}
use Rattle.net_file.specs.declared.fault.NetSection.TheVariants as section
use Rattle.bridge_bounds.specs.Passing.{Passes}
use Rattle.bridge_bounds.specs.Timings.{IsDoneInPhases, IsTiming, IsDelayInBounds}
use Rattle.bridge_bounds.specs.declared.timing.Phases.{Phases}
use Rattle.bridge_bounds.specs.declared.timing.Timing.{Timing}
use Rattle.net_file.specs.declared.traffic_fault.TrafficFault.{TrafficFault}
use Rattle.net_file.specs.declared.traffic_fault.TrafficFault.TheVariants as fault
use Rattle.net_file.specs.declared.traffic_row.TrafficRow.{TrafficRow}
use Rattle.net_latency.specs.declared.bounds.QueueBound.{QueueBound}
use Rattle.net_latency.specs.declared.timings.QueueTiming.{QueueTiming}
use Rattle.net_latency.specs.declared.timings.TrafficFigures.{TrafficFigures}
use Rattle.net_latency.specs.declared.timings.TrafficFigures.TheVariants as figures

-- CYCLES

-- True if a period is a multiple of a cycle time.
abbrev pub is_multiple : ℕ → ℕ → Bool
is_multiple period cycle = nat_eq (period % cycle) 0

-- True if a period is a multiple of each cycle time of a stream gate's schedule. A fixed gate has none.
abbrev pub suits_schedule : {A : Type 0} → ℕ → Schedule A → Bool
suits_schedule period (schedule.Fixed lets ipv) = true
suits_schedule period (schedule.Cyclic l) = is_multiple period l.cycle
suits_schedule period (schedule.Joined j) = is_multiple period j.old.cycle && is_multiple period j.new.cycle

-- True if a period is a multiple of each cycle time of an optional stream gate. True without a gate.
abbrev pub suits_gate : {A : Type 0} → ℕ → Option (GatePlan A) → Bool
suits_gate period None = true
suits_gate period (Some g) = suits_schedule period g.schedule

-- True if a period is a multiple of each cycle time of a port's gate control lists. True without a list.
abbrev pub suits_lists : {A : Type 0} → ℕ → Option (Egress A) → Bool
suits_lists period None = true
suits_lists period (Some (egress.Cyclic l)) = is_multiple period l.cycle
suits_lists period (Some (egress.Joined j)) = is_multiple period j.old.cycle && is_multiple period j.new.cycle

-- True if a period is a multiple of each cycle time of an optional port. True without a port.
abbrev pub suits_port : {A : Type 0} → ℕ → Option (PortPlan A) → Bool
suits_port period None = true
suits_port period (Some out) = suits_lists period out.list

-- True if filter `f` has a reachable queue at port `q`, and the period isn't a multiple of the port's cycle times.
abbrev pub has_misfit_at_port : {A : Type 0} → Plan A → FilterPlan → ℕ → ℕ → Bool
has_misfit_at_port p f period q = some_number_passes 8 (λ c. reaches_queue p f q c) && not (suits_port period (find_port p.ports q))

-- True if a period is a multiple of each cycle time on a filter's route. The route is its stream gate, and each port at which it has a
-- reachable queue.
abbrev pub suits : {A : Type 0} → Plan A → FilterPlan → ℕ → Bool
suits p f period =
    suits_gate period (lookup (nat_eq f.gate) p.gates)
    && not (some_number_passes 16 (λ i. has_misfit_at_port p f period (i + 1)))

-- FAULTS

-- The location of a key of row `index`, from 1, for faults.
abbrev pub row_key : ℕ → NetField → NetKeyLocation
row_key index key = record { section = section.Traffic; index = index; field = key }

-- The fault of periodic row `r` compared with the plan. The row has a fault if its optional filter is missing or
-- unprotected, or if its period isn't a multiple of a cycle time.
--
-- `None` if the row has no fault.
abbrev pub filter_fault : {A : Type 0} → Plan A → ℕ → TrafficRow → Option FilterPlan → Option TrafficFault
filter_fault p index r None = Some (fault.Text (net.Unresolved (row_key index field.Filter)))
filter_fault p index r (Some f) =
    if not f.protected then Some (fault.NotProtected index)
    else if not (suits p f r.traffic.period) then Some (fault.Text (net.OutOfRange (row_key index field.Period)))
    else None

-- The fault of periodic row `index` compared with the plan. `None` if the row has no fault.
abbrev pub row_fault : {A : Type 0} → Plan A → ℕ → TrafficRow → Option TrafficFault
row_fault p index r = filter_fault p index r (lookup (nat_eq r.filter) p.filters)

-- DELAYS

-- Holds if the plan has the filter of row `r`, and this filter passes each frame of the row.
abbrev pub RowPasses : {A : Type 0} → Plan A → TrafficRow → Type 0
RowPasses p r = (f : FilterPlan) × (lookup (nat_eq r.filter) p.filters ≡ Some f) × Passes p f r.traffic

-- True if the queue has phases: each frame has left before the next one arrives, so the queue accepts every frame.
abbrev pub has_phases : Timing → Bool
has_phases x = is_some x.phases

-- Holds if each frame of row `r` passes its filter, and the queue with the delays `x` has phases, so it accepts the frame.
abbrev pub PassesAt : {A : Type 0} → Plan A → TrafficRow → Timing → Type 0
PassesAt p r x = RowPasses p r × (has_phases x ≡ true)

-- Holds if copy `y` of a row's frame is sent between the phases of `x` in its period, with a delay from best to worst.
pub record IsSentInTime {A : Type 0} (out : PortPlan A) (r : TrafficRow) (x : Timing) (y : Copy CarriedFrame) : Type 0 where
  pub done : Phases
  pub phases : x.phases ≡ Some done
  pub start : ℕ
  pub started : y.fate ≡ Started start
  pub between : IsDoneInPhases out r.traffic done y
  pub times : IsDelayInBounds out x y start

-- Holds if `x` has the delays of row `r` in the queue of `b`.
pub record IsRowTiming {A : Type 0} (p : Plan A) (index : ℕ) (r : TrafficRow) (b : QueueBound) (x : QueueTiming) : Type 0 where
  pub row : x.row ≡ index
  pub filter : x.filter ≡ r.filter
  pub port : x.port ≡ b.port
  pub class : x.class ≡ b.class
  pub deadline : x.deadline ≡ r.deadline
  pub timing : IsTiming p r.filter b.port b.class r.traffic x.timing
  pub passes : (x.passes ≡ true) ↔ PassesAt p r x.timing

-- Holds if the first item has property `P`, and the list of the other items has property `Q`.
abbrev pub Begins : {X : Type 0} → (X → Type 0) → (List X → Type 0) → List X → Type 0
Begins P Q [] = ⊥
Begins P Q (x ∷ xs) = P x × Q xs

-- One of two statements: the first if the test is true, otherwise the second.
abbrev pub IfElse : Bool → Type 0 → Type 0 → Type 0
IfElse true A B = A
IfElse false A B = B

-- Holds if `xs` has the delays of row `r`, one item for each bound of its filter's queues, in order.
abbrev pub AreRowTimings : {A : Type 0} → Plan A → ℕ → TrafficRow → List QueueBound → List QueueTiming → Type 0
AreRowTimings p index r [] xs = xs ≡ []
AreRowTimings p index r (b ∷ bs) xs =
    IfElse (nat_eq b.filter r.filter) (Begins (IsRowTiming p index r b) (AreRowTimings p index r bs) xs) (AreRowTimings p index r bs xs)

-- The results of a row: the delays in each queue, or one `Nowhere` if the row's filter has no reachable queue.
abbrev pub row_figures : ℕ → ℕ → List QueueTiming → List TrafficFigures
row_figures row filter [] = figures.Nowhere row filter ∷ []
row_figures row filter (x ∷ xs) = map figures.Queue (x ∷ xs)

-- True if the worst delay meets the optional deadline. True without a deadline.
abbrev pub is_met : Option ℕ → ℕ → Bool
is_met None worst = true
is_met (Some deadline) worst = nat_le worst deadline

-- True if each frame passes and meets its deadline in a queue.
abbrev pub is_in_time : QueueTiming → Bool
is_in_time x = x.passes && is_met x.deadline x.timing.worst

-- True if each frame of a row passes and meets its deadline in a queue. False for a row without queue.
abbrev pub is_row_kept : TrafficFigures → Bool
is_row_kept (figures.Queue x) = is_in_time x
is_row_kept (figures.Nowhere row filter) = false

-- True if each row has a queue, and each frame passes and meets its deadline in each queue.
abbrev pub are_in_time : List TrafficFigures → Bool
are_in_time xs = list_all is_row_kept xs
