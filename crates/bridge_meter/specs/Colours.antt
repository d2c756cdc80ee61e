-- Colours that a flow meter gives to frames: green, yellow or red.
use Rattle.std.specs.Prelude.{ℕ, Bool, true, false, ◌-◌, ◌*◌, not, ◌&&◌, ◌||◌, nat_le, List, [], ◌∷◌, if◌then◌else◌}
use Rattle.bridge_meter.specs.declared.TheConstants.{HIGHEST_RATE, LARGEST_BURST, UNITS_PER_OCTET}
use Rattle.bridge_meter.specs.declared.Colour.{Colour}
use Rattle.bridge_meter.specs.declared.Colour.TheVariants.{Green, Yellow, Red}
use Rattle.bridge_meter.specs.declared.MeterPlan.{MeterPlan}
use Rattle.bridge_meter.specs.declared.Buckets.{Buckets}
use Rattle.bridge_meter.specs.Bounds.{JudgedFrame, Limits, committed, excess}

-- Event at a meter: a frame (arrival time in ns, metered octets, drop eligible indication), or a command that clears
-- the red flag.
-- Lists of these events are newest first.
pub data MeterEvent : Type 0 where
  Arrived : (at octets : ℕ) → Bool → MeterEvent
  Cleared : MeterEvent

-- Number of bucket units per octet, chosen so that a rate of n bit/s adds exactly n units per ns.
abbrev pub octet_units : ℕ
octet_units = UNITS_PER_OCTET

-- Bucket limits from a meter's settings: rates in units per ns equal the rates in bit/s, and burst sizes are converted
-- from octets to units.
abbrev pub meter_limits : MeterPlan → Limits
meter_limits p = record { cir = p.cir; cbs = p.cbs * octet_units; eir = p.eir; ebs = p.ebs * octet_units; coupling = p.coupling }

-- True if both rates of the meter are at most 100 Gbit/s and both burst sizes are below 2^32 octets.
abbrev pub is_within_limits : MeterPlan → Bool
is_within_limits p = nat_le p.cir HIGHEST_RATE && nat_le p.eir HIGHEST_RATE && nat_le p.cbs LARGEST_BURST && nat_le p.ebs LARGEST_BURST

-- True if the frame may be green: always at a colour-blind meter, and only without the drop eligible indication at a
-- colour-aware meter.
abbrev pub may_be_green : MeterPlan → Bool → Bool
may_be_green p dei = not p.aware || not dei

-- Colour of a frame: green if allowed and the committed bucket has enough units, otherwise yellow if the excess bucket
-- has enough, otherwise red.
abbrev pub colour_by_contents : MeterPlan → ℕ → ℕ → ℕ → Bool → Colour
colour_by_contents p committed excess octets dei =
    if may_be_green p dei && nat_le (octets * octet_units) committed then Green
    else if nat_le (octets * octet_units) excess then Yellow
    else Red

-- Colour of a frame that arrives at time `at`, by the bucket levels after the judged frames `meter_history`, which are newest
-- first.
abbrev pub colour_by_history : MeterPlan → List JudgedFrame → ℕ → ℕ → Bool → Colour
colour_by_history p meter_history at octets dei = colour_by_contents p (committed (meter_limits p) at meter_history) (excess (meter_limits p) at meter_history) octets dei

-- Record of a judged frame: green uses the committed bucket for the frame's octets, yellow uses the excess bucket, red
-- uses 0 units.
abbrev pub judged_frame : ℕ → ℕ → Colour → JudgedFrame
judged_frame at octets Green = record { at = at; green = octets * octet_units; yellow = 0 }
judged_frame at octets Yellow = record { at = at; green = 0; yellow = octets * octet_units }
judged_frame at octets Red = record { at = at; green = 0; yellow = 0 }

-- True if the colour is red; false for green and yellow.
abbrev pub is_red : Colour → Bool
is_red Green = false
is_red Yellow = false
is_red Red = true

-- State of a meter: the frames that its buckets judged, newest first, and the red flag, which makes all later frames
-- red.
pub record MeterHistory : Type 0 where
  pub judged : List JudgedFrame
  pub all_red : Bool

-- State of a meter after one more frame: unchanged if the red flag is set, otherwise the buckets judge the frame.
-- With `mark_all_red`, a frame that the buckets make red sets the red flag.
abbrev pub history_with_frame : MeterPlan → MeterHistory → ℕ → ℕ → Bool → MeterHistory
history_with_frame p x at octets dei =
    if x.all_red then x
    else record { judged = judged_frame at octets (colour_by_history p x.judged at octets dei) ∷ x.judged; all_red = p.mark_all_red && is_red (colour_by_history p x.judged at octets dei) }

-- State of a meter after the events of the list, newest first; without events, no frame was judged and the red flag is
-- clear.
abbrev pub meter_history : MeterPlan → List MeterEvent → MeterHistory
meter_history p [] = record { judged = []; all_red = false }
meter_history p (Arrived at octets dei ∷ es) = history_with_frame p (meter_history p es) at octets dei
meter_history p (Cleared ∷ es) = record { judged = (meter_history p es).judged; all_red = false }

-- Colour that a meter in the state `x` gives a frame: red if the red flag is set, otherwise the colour by the bucket
-- levels.
abbrev pub frame_colour : MeterPlan → MeterHistory → ℕ → ℕ → Bool → Colour
frame_colour p x at octets dei = if x.all_red then Red else colour_by_history p x.judged at octets dei

-- Bucket levels in units just after the newest judged frame, the arrival time of that frame, and the red flag `all_red`. Without frames,
-- the buckets are full at time 0.
abbrev pub frames_buckets : Limits → Bool → List JudgedFrame → Buckets
frames_buckets l all_red [] = record { committed = l.cbs; excess = l.ebs; at = 0; all_red = all_red }
frames_buckets l all_red (f ∷ fs) = record { committed = committed l f.at fs - f.green; excess = excess l f.at fs - f.yellow; at = f.at; all_red = all_red }

-- Bucket levels in units, arrival time in ns of the last judged frame, and red flag of a meter in the state `x`.
abbrev pub history_buckets : MeterPlan → MeterHistory → Buckets
history_buckets p x = frames_buckets (meter_limits p) x.all_red x.judged
