-- Talkers that conform to a burst and a rate, and filters that admit them.
use Rattle.std.specs.Prelude.{◌≡◌, ℕ, true, false, ◌+◌, ◌*◌, ◌≤◌, ◌&&◌, nat_le, List, [], ◌∷◌, Some, None, if◌then◌else◌}
use Rattle.bridge_limits.specs.Members.{IsMember}
use Rattle.bridge_cycle.specs.declared.timeline.Turn.{Turn}
use Rattle.bridge_frame.specs.Link.{transmission_time}
use Rattle.bridge_gate.specs.declared.schedule.GateEntry.{GateEntry}
use Rattle.bridge_gate.specs.Gates.{GateRules}
use Rattle.bridge_meter.specs.Colours.{octet_units}
use Rattle.bridge_filter.specs.declared.FilterInput.{FilterInput}
use Rattle.bridge_filter.specs.declared.FilterPlan.{FilterPlan}
use Rattle.bridge_filter.specs.OwnEvents.{is_filter_number}
use Rattle.bridge_port.specs.Schedule.{Copy, Started}
use Rattle.bridge_config.specs.declared.ports.PortPlan.{PortPlan}
use Rattle.bridge_config.specs.Model.{Plan}
use Rattle.bridge_semantics.specs.Events.{Arrival, Arrived, Cleared, Event, arrival_filter, arrival_input, metered_octets, plan_police}
use Rattle.bridge_semantics.specs.Offers.{CarriedFrame}

-- The metered octets of the frames of filter `n` that arrived at time `u` or later.
abbrev pub recent_own_octets : {A : Type 0} → Plan A → ℕ → ℕ → List Event → ℕ
recent_own_octets p n u [] = 0
recent_own_octets p n u (Arrived a ∷ es) = (if is_filter_number n (arrival_filter p a) && nat_le u a.at then metered_octets a.len else 0) + recent_own_octets p n u es
recent_own_octets p n u (Cleared clear k ∷ es) = recent_own_octets p n u es

-- Holds if frame `a` conforms. It isn't drop eligible, its SDU has at most `most` octets, and the frames up to it
-- keep the burst and the rate.
pub record IsConformingFrame {A : Type 0} (p : Plan A) (n most burst rate : ℕ) (a : Arrival) (es : List Event) : Type 0 where
  pub form : (c : FilterInput) → arrival_input p a ≡ Some c → (c.dei ≡ false) × (c.sdu ≤ most)
  pub octets : (u w : ℕ) → a.at ≡ u + w → recent_own_octets p n u (Arrived a ∷ es) * octet_units ≤ burst * octet_units + rate * w

-- Holds if each frame of filter `n` conforms to the SDU limit `most`, the burst and the rate (IsConformingFrame).
abbrev pub IsConformingTalker : {A : Type 0} → Plan A → ℕ → ℕ → ℕ → ℕ → List Event → Type 0
IsConformingTalker p n most burst rate [] = Unit {0}
IsConformingTalker p n most burst rate (Arrived a ∷ es) = (is_filter_number n (arrival_filter p a) ≡ true → IsConformingFrame p n most burst rate a es) × IsConformingTalker p n most burst rate es
IsConformingTalker p n most burst rate (Cleared clear k ∷ es) = IsConformingTalker p n most burst rate es

-- Holds if the stream gate is open at each time and has no octet limit.
abbrev pub IsAlwaysOpen : GateRules → Type 0
IsAlwaysOpen r = (t : ℕ) → (x : Turn GateEntry) × (r.turn_at t ≡ Some x) × (x.state.lets ≡ true) × (x.state.octets ≡ None)

-- Holds if filter `f` admits each frame of a conforming talker. Its gate is always open, `max_sdu` is at least `most`, and meter `m` has at least the talker's
-- burst and rate.
pub record AdmitsTalker {A : Type 0} (p : Plan A) (f : FilterPlan) (m most burst rate : ℕ) : Type 0 where
  pub gate : IsAlwaysOpen ((plan_police p).gates f.gate)
  pub max_sdu : (k : ℕ) × (f.max_sdu ≡ Some k) × (most ≤ k)
  pub meter : f.meter ≡ Some m
  pub burst_size : burst ≤ ((plan_police p).meters m).cbs
  pub token_rate : rate ≤ ((plan_police p).meters m).cir

-- Holds if a copy of frame `a`, which is frame `number` of filter `n`, leaves the port at most `b` ns after its arrival.
pub record IsDelivered {A : Type 0} (out : PortPlan A) (copies : List (Copy CarriedFrame)) (a : Arrival) (n number b : ℕ) : Type 0 where
  pub copy : Copy CarriedFrame
  pub start : ℕ
  pub listed : IsMember copy copies
  pub at : copy.at ≡ a.at
  pub len : copy.item.len ≡ a.len
  pub flow : copy.item.flow ≡ Some n
  pub own : copy.item.own ≡ number
  pub started : copy.fate ≡ Started start
  pub done : start + transmission_time copy.item.len out.speed ≤ a.at + b
