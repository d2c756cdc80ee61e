-- Times at which a stream gate can put a frame into a class, and cycles that a stream gate's list and a port's list share.
use Rattle.std.specs.Prelude.{◌≡◌, ℕ, Bool, false, ◌+◌, ◌*◌, ◌/◌, ◌%◌, ◌<◌, ◌≤◌, ◌&&◌, nat_eq, Option, None, Some, length, slice_index}
use Rattle.bridge_cycle.specs.Cyclic as cyclic
use Rattle.bridge_cycle.specs.declared.timeline.Turn.{Turn}
use Rattle.bridge_gate.specs.declared.schedule.GateEntry.{GateEntry}
use Rattle.bridge_config.specs.declared.ports.PortPlan.{PortPlan}
use Rattle.bridge_check.specs.Reach.{gives_priority, some_number_passes}
use Rattle.bridge_bounds.specs.declared.common_cycle.TheConstants.{MAX_INTERVALS}

-- True if gate entry `e` is open and can put a frame into class `c` of port `out`. The frame's filter has the optional
-- priority `priority`.
abbrev pub fills_class : {A : Type 0} → PortPlan A → Option ℕ → ℕ → GateEntry → Bool
fills_class out priority c e = some_number_passes 8 (λ k. gives_priority e priority k && nat_eq (slice_index out.classes k) c)

-- True if the entry of an optional interval passes the test; false if there is no interval (`None`).
abbrev pub turn_passes : (GateEntry → Bool) → Option (Turn GateEntry) → Bool
turn_passes test None = false
turn_passes test (Some x) = test x.state

-- True if the stream gate with list `gate` can put a frame into class `c` of port `out` at time `u`, in ns.
abbrev pub fills_at : {A : Type 0} → PortPlan A → Option ℕ → ℕ → cyclic.Cyclic GateEntry → ℕ → Bool
fills_at out priority c gate u = turn_passes (fills_class out priority c) (cyclic.turn_by_time gate u)

-- Holds if `span` ns are whole cycles of the stream gate's list and whole cycles of the port's list. In `span` ns both
-- lists together have at most MAX_INTERVALS entries, each counted once a cycle.
pub record IsCommonCycle (gate : cyclic.Cyclic GateEntry) (list : cyclic.Cyclic ℕ) (span : ℕ) : Type 0 where
  pub some : 0 < span
  pub gate_cycles : span % gate.cycle ≡ 0
  pub list_cycles : span % list.cycle ≡ 0
  pub few : span / gate.cycle * length gate.entries + span / list.cycle * length list.entries ≤ MAX_INTERVALS

-- Holds if the lists of gate and port have a common cycle: a time `span` that fulfils `IsCommonCycle`.
abbrev pub HaveCommonCycle : cyclic.Cyclic GateEntry → cyclic.Cyclic ℕ → Type 0
HaveCommonCycle gate list = (span : ℕ) × IsCommonCycle gate list span

-- Holds if `n`, from 1 to `most`, is the least number of cycles of `cycle` ns that make whole cycles of `other` ns.
pub record AreLeastCycles (cycle other most n : ℕ) : Type 0 where
  pub some : 1 ≤ n
  pub within : n ≤ most
  pub whole : n * cycle % other ≡ 0
  pub least : (i : ℕ) → 1 ≤ i → i < n → ¬ (i * cycle % other ≡ 0)
