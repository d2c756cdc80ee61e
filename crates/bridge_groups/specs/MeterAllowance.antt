-- The octets that a flow meter passes in a span of time, and talkers that conform to a burst and a rate.
use Rattle.std.specs.Prelude.{◌≡◌, ℕ, Bool, true, false, ◌+◌, ◌*◌, ◌≤◌, nat_le, List, [], ◌∷◌, if◌then◌else◌}
use Rattle.bridge_meter.specs.declared.MeterPlan.{MeterPlan}
use Rattle.bridge_meter.specs.Bounds.{JudgedFrame}
use Rattle.bridge_meter.specs.Colours.{MeterEvent, Arrived, Cleared, octet_units}

-- The units that a judged frame took and that pass the meter: green units, and yellow ones unless yellow frames are
-- dropped.
abbrev pub passed_units : Bool → JudgedFrame → ℕ
passed_units true f = f.green
passed_units false f = f.green + f.yellow

-- The units that passed the meter at time `u` or later. If `drop` is true, the meter drops yellow frames.
abbrev pub recent_passed_units : Bool → ℕ → List JudgedFrame → ℕ
recent_passed_units drop u [] = 0
recent_passed_units drop u (f ∷ fs) = (if nat_le u f.at then passed_units drop f else 0) + recent_passed_units drop u fs

-- The burst in octets that the meter passes: CBS + EBS, or only CBS if yellow frames are dropped.
abbrev pub meter_burst : MeterPlan → ℕ
meter_burst p = if p.drop_yellow then p.cbs else p.cbs + p.ebs

-- The rate in bit/s that the meter passes: CIR + EIR, or only CIR if yellow frames are dropped.
abbrev pub meter_rate : MeterPlan → ℕ
meter_rate p = if p.drop_yellow then p.cir else p.cir + p.eir

-- The most units that the meter passes in any `w` ns: its burst, and the units that its rate gives in this time.
abbrev pub meter_allowance : MeterPlan → ℕ → ℕ
meter_allowance p w = meter_burst p * octet_units + meter_rate p * w

-- The octets of the frames that arrived at the meter at time `u` or later.
abbrev pub recent_octets : ℕ → List MeterEvent → ℕ
recent_octets u [] = 0
recent_octets u (Arrived at octets dei ∷ es) = (if nat_le u at then octets else 0) + recent_octets u es
recent_octets u (Cleared ∷ es) = recent_octets u es

-- Holds if no frame is drop eligible, and the frames of any `w` ns keep the burst and the rate. Events are newest
-- first.
abbrev pub AreConforming : ℕ → ℕ → List MeterEvent → Type 0
AreConforming burst rate [] = Unit {0}
AreConforming burst rate (Arrived at octets dei ∷ es) = (dei ≡ false) × ((u w : ℕ) → at ≡ u + w → recent_octets u (Arrived at octets dei ∷ es) * octet_units ≤ burst * octet_units + rate * w) × AreConforming burst rate es
AreConforming burst rate (Cleared ∷ es) = AreConforming burst rate es

-- The time in ns of the newest frame at the meter; 0 if no frame arrived.
abbrev pub last_metered_time : List MeterEvent → ℕ
last_metered_time [] = 0
last_metered_time (Arrived at octets dei ∷ es) = at
last_metered_time (Cleared ∷ es) = last_metered_time es

-- Holds if no frame arrived at the meter earlier than an older one. Events are newest first.
abbrev pub AreFramesInOrder : List MeterEvent → Type 0
AreFramesInOrder [] = Unit {0}
AreFramesInOrder (Arrived at octets dei ∷ es) = (last_metered_time es ≤ at) × AreFramesInOrder es
AreFramesInOrder (Cleared ∷ es) = AreFramesInOrder es

-- The history of a meter that found each of its frames green.
abbrev pub green_frames : List MeterEvent → List JudgedFrame
green_frames [] = []
green_frames (Arrived at octets dei ∷ es) = record { at = at; green = octets * octet_units; yellow = 0 } ∷ green_frames es
green_frames (Cleared ∷ es) = green_frames es
