-- Computed examples of delay bounds and of their definitions.
use Rattle.std.specs.Prelude.{◌≡◌, true, false, None, Some, [], ◌∷◌, refl}
use Rattle.std.proofs.Common.{lit<, lit≤}
use Rattle.bridge_cycle.specs.Cyclic.{Cyclic, turn_by_time}
use Rattle.bridge_gate.specs.declared.schedule.GateEntry.{GateEntry}
use Rattle.bridge_bounds.specs.Openings.{IsCommonCycle, turn_passes}
use Rattle.bridge_port.specs.GateSchedule.{Always, One}
use Rattle.bridge_filter.specs.declared.Verdict.TheVariants as verdict
use Rattle.bridge_bounds.specs.Passing.{allows, is_limit_reset_in_time, can_pass_entry, passes}
use Rattle.bridge_bounds.specs.Waits.{has_period}

-- A port without a list has each period. A list with a cycle of 1,000,000 ns has a period of two cycles, not of one and a half.
pub without_a_list : has_period 7 Always ≡ true
without_a_list = refl

pub two_cycles : has_period 2000000 (One (record { base = 0; cycle = 1000000; entries = [] })) ≡ true
two_cycles = refl

pub cycle_and_a_half : has_period 1500000 (One (record { base = 0; cycle = 1000000; entries = [] })) ≡ false
cycle_and_a_half = refl

-- An interval of 600 octets passes a frame of 600 octets, but no larger one.
pub just_enough : allows (Some 600) 600 ≡ true
just_enough = refl

pub one_more : allows (Some 600) 601 ≡ false
one_more = refl

-- A closed entry passes no frame, whatever its limit.
pub closed : can_pass_entry (record { lets = false; ipv = Some 7; octets = None }) 60 ≡ false
closed = refl

-- An interval with a limit may end when the next frame arrives, but no later. An interval without a limit may end at any time.
pub ends_in_time : is_limit_reset_in_time (Some 600) 1100000 1100000 ≡ true
ends_in_time = refl

pub ends_late : is_limit_reset_in_time (Some 600) 1100001 1100000 ≡ false
ends_late = refl

pub ends_without : is_limit_reset_in_time None 1100001 1100000 ≡ true
ends_without = refl

-- Only the verdict `Pass` passes.
pub passed : passes (verdict.Pass (Some 7) false) ≡ true
passed = refl

pub not_passed : passes verdict.GateClosed ≡ false
not_passed = refl

-- A stream gate that is open for the first 300,000 ns of each cycle of 1,000,000 ns. Its base time is 250,000 ns.
abbrev open_gate : Cyclic GateEntry
open_gate = record { base = 250000; cycle = 1000000; entries = (record { lets = true; ipv = Some 7; octets = None }, 300000) ∷ (record { lets = false; ipv = None; octets = None }, 700000) ∷ [] }

pub passes_from_base : turn_passes (λ e. e.lets) (turn_by_time open_gate 250000) ≡ true
passes_from_base = refl

pub passes_at_last : turn_passes (λ e. e.lets) (turn_by_time open_gate 1549999) ≡ true
passes_at_last = refl

pub passes_no_more : turn_passes (λ e. e.lets) (turn_by_time open_gate 1550000) ≡ false
passes_no_more = refl

-- This gate and a port's list with a cycle of 400,000 ns share a cycle of 2,000,000 ns. It has 2 × 2 + 5 × 1 intervals.
pub shared_cycle : IsCommonCycle open_gate (record { base = 0; cycle = 400000; entries = (128, 100000) ∷ [] }) 2000000
shared_cycle = record { some = lit< tt; gate_cycles = refl; list_cycles = refl; few = lit≤ tt }
