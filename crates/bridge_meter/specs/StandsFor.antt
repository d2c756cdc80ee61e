-- The condition that a meter stands for a list of events.
use Rattle.std.specs.Prelude.{◌≡◌, ℕ, ◌≤◌, List, [], ◌∷◌}
use Rattle.bridge_meter.specs.declared.MeterPlan.{MeterPlan}
use Rattle.bridge_meter.specs.declared.Buckets.{Buckets}
use Rattle.bridge_meter.specs.Bounds.{JudgedFrame}
use Rattle.bridge_meter.specs.Colours.{MeterEvent, meter_history, history_buckets}

-- State of a meter as contracts see it: its plan and its buckets.
pub record MeterState : Type 0 where
  pub plan : MeterPlan
  pub buckets : Buckets

-- Arrival time in ns of the newest judged frame; 0 if there is none.
abbrev pub newest_time : List JudgedFrame → ℕ
newest_time [] = 0
newest_time (f ∷ fs) = f.at

-- Holds if the arrival times of judged frames, listed newest first, never fall.
abbrev pub AreInOrder : List JudgedFrame → Type 0
AreInOrder [] = Unit {0}
AreInOrder (f ∷ fs) = (newest_time fs ≤ f.at) × AreInOrder fs

-- Holds if the meter has this plan and the buckets that the events give. The events are newest first, and arrival times
-- of judged frames never fall.
pub record StandsFor (plan : MeterPlan) (meter : MeterState) (events : List MeterEvent) : Type 0 where
  pub plan_is : meter.plan ≡ plan
  pub buckets_are : meter.buckets ≡ history_buckets plan (meter_history plan events)
  pub in_order : AreInOrder (meter_history plan events).judged
