-- The verdicts of stream filters over a list of frames and commands (IEEE 802.1Q-2018, 8.6.5.1: per-stream filtering and policing).
use Rattle.std.specs.Prelude.{ℕ, ◌≤◌, Bool, true, false, ◌&&◌, ◌||◌, not, nat_lt, nat_eq, Option, Some, None, List, [], ◌∷◌, if◌then◌else◌}
use Rattle.bridge_meter.specs.declared.Colour.{Colour}
use Rattle.bridge_meter.specs.declared.Colour.TheVariants as colour
use Rattle.bridge_meter.specs.declared.MeterPlan.{MeterPlan}
use Rattle.bridge_meter.specs.Colours as meter
use Rattle.bridge_gate.specs.declared.stream_gate.GateAnswer.{GateAnswer}
use Rattle.bridge_gate.specs.declared.stream_gate.GateAnswer.TheVariants as gate
use Rattle.bridge_gate.specs.Gates.{GateRules, GateEvent, Asked, ClearedRx, ClearedOctets, gate_steps, answer}
pub use Rattle.bridge_filter.specs.declared.FilterInput.{FilterInput}
use Rattle.bridge_filter.specs.declared.Clear.{Clear}
use Rattle.bridge_filter.specs.declared.Clear.TheVariants as clear
use Rattle.bridge_filter.specs.declared.FilterPlan.{FilterPlan}
use Rattle.bridge_filter.specs.declared.Verdict.{Verdict}
use Rattle.bridge_filter.specs.declared.Verdict.TheVariants as verdict
use Rattle.bridge_filter.specs.declared.Ruling.{Ruling}

-- Values of a frame at the stream filters: arrival time in ns, stream handle, priority, drop eligible indication, SDU
-- octets and metered octets.
abbrev pub filter_input : ℕ → Option ℕ → ℕ → Bool → ℕ → ℕ → FilterInput
filter_input at handle priority dei sdu octets = record { at = at; handle = handle; priority = priority; dei = dei; sdu = sdu; octets = octets }

-- Event at the stream filters: a frame, or a command with the flag to clear and the number of its filter, gate or
-- meter.
pub data FilterEvent : Type 0 where
  Arrived : FilterInput → FilterEvent
  Cleared : Clear → ℕ → FilterEvent

-- Configuration of policing: the filters with their numbers, and for each number the rules of a stream gate and the
-- settings of a meter.
pub record PolicePlans : Type 0 where
  pub filters : List (ℕ × FilterPlan)
  pub gates : ℕ → GateRules
  pub meters : ℕ → MeterPlan

-- True if the frame's stream handle `h` equals the filter's handle; a filter with a wildcard (`None`) accepts every
-- frame, even without a handle.
abbrev pub is_handle_match : Option ℕ → Option ℕ → Bool
is_handle_match None h = true
is_handle_match (Some m) None = false
is_handle_match (Some m) (Some n) = nat_eq m n

-- True if the frame's priority `k` equals the filter's priority; a filter with a wildcard (`None`) accepts every
-- priority.
abbrev pub is_priority_match : Option ℕ → ℕ → Bool
is_priority_match None k = true
is_priority_match (Some m) k = nat_eq m k

-- True if the stream handle and the priority of the frame `c` both match the filter `f`.
abbrev pub is_match : FilterPlan → FilterInput → Bool
is_match f c = is_handle_match f.handle c.handle && is_priority_match f.priority c.priority

-- Filter with the smaller number among `f` and the second argument; `f` if both numbers are equal or the second
-- argument is `None`.
abbrev pub lesser_filter : (ℕ × FilterPlan) → Option (ℕ × FilterPlan) → Option (ℕ × FilterPlan)
lesser_filter f None = Some f
lesser_filter f (Some g) = if nat_lt g.0 f.0 then Some g else Some f

-- Stream filter of the frame `c`: the matching filter with the least number, or `None` if no filter matches.
abbrev pub frame_filter : List (ℕ × FilterPlan) → FilterInput → Option (ℕ × FilterPlan)
frame_filter [] c = None
frame_filter (f ∷ fs) c = if is_match f.1 c then lesser_filter f (frame_filter fs c) else frame_filter fs c

-- Result of one event at the stream filters: a frame without a matching filter, a frame with its filter and verdict, or
-- a command.
pub data FilterStep : Type 0 where
  Unfiltered : FilterInput → FilterStep
  Judged : FilterInput → ℕ → FilterPlan → Verdict → FilterStep
  Commanded : Clear → ℕ → FilterStep

-- True if the frame reached its stream gate, which holds for every verdict except Blocked and Oversize.
abbrev pub has_reached_gate : Verdict → Bool
has_reached_gate verdict.Blocked = false
has_reached_gate verdict.Oversize = false
has_reached_gate v = true

-- True if the frame passed its stream gate: the verdict is Pass, Red or YellowDropped.
abbrev pub has_passed_gate : Verdict → Bool
has_passed_gate verdict.Red = true
has_passed_gate verdict.YellowDropped = true
has_passed_gate (verdict.Pass ipv eligible) = true
has_passed_gate v = false

-- Holds if the internal priority value of the verdict is 0 to 7 or absent.
abbrev pub HasValidPriority : Verdict → Type 0
HasValidPriority (verdict.Pass (Some ipv) eligible) = ipv ≤ 7
HasValidPriority v = Unit {0}

-- Events at stream gate `g`, newest first: frames that reached the gate through its filters, and commands that clear a
-- flag of the gate.
abbrev pub gate_share : ℕ → List FilterStep → List GateEvent
gate_share g [] = []
gate_share g (Unfiltered c ∷ ss) = gate_share g ss
gate_share g (Judged c n f v ∷ ss) = if nat_eq f.gate g && has_reached_gate v then Asked c.at c.sdu ∷ gate_share g ss else gate_share g ss
gate_share g (Commanded clear.Rx n ∷ ss) = if nat_eq n g then ClearedRx ∷ gate_share g ss else gate_share g ss
gate_share g (Commanded clear.Octets n ∷ ss) = if nat_eq n g then ClearedOctets ∷ gate_share g ss else gate_share g ss
gate_share g (Commanded c n ∷ ss) = gate_share g ss

-- True if the filter has the meter with number `m`; false if the filter has no meter (`None`).
abbrev pub is_meter : Option ℕ → ℕ → Bool
is_meter None m = false
is_meter (Some n) m = nat_eq n m

-- Events at meter number `m`, newest first: frames of its filters that passed their gates, and commands that clear the
-- meter's red flag.
abbrev pub meter_share : ℕ → List FilterStep → List meter.MeterEvent
meter_share m [] = []
meter_share m (Unfiltered c ∷ ss) = meter_share m ss
meter_share m (Judged c n f v ∷ ss) = if is_meter f.meter m && has_passed_gate v then meter.Arrived c.at c.octets c.dei ∷ meter_share m ss else meter_share m ss
meter_share m (Commanded clear.Red n ∷ ss) = if nat_eq n m then meter.Cleared ∷ meter_share m ss else meter_share m ss
meter_share m (Commanded c n ∷ ss) = meter_share m ss

-- True if the verdict is Oversize: the frame's SDU is longer than the filter's maximum.
abbrev pub is_oversize : Verdict → Bool
is_oversize verdict.Oversize = true
is_oversize v = false

-- True if filter `n` gave the verdict Oversize and no later command cleared its blocked flag; the list is newest first.
abbrev pub is_blocked : ℕ → List FilterStep → Bool
is_blocked n [] = false
is_blocked n (Unfiltered c ∷ ss) = is_blocked n ss
is_blocked n (Judged c m f v ∷ ss) = (nat_eq m n && is_oversize v) || is_blocked n ss
is_blocked n (Commanded clear.Blocked m ∷ ss) = not (nat_eq m n) && is_blocked n ss
is_blocked n (Commanded c m ∷ ss) = is_blocked n ss

-- True if an SDU of `n` octets is longer than the filter's maximum; false if the filter has no maximum (`None`).
abbrev pub is_above_max : Option ℕ → ℕ → Bool
is_above_max None n = false
is_above_max (Some most) n = nat_lt most n

-- Verdict by the meter's colour: green passes, red is refused, yellow passes as drop eligible, or is refused if
-- `drop_yellow` is set.
abbrev pub colour_verdict : MeterPlan → Option ℕ → Colour → Verdict
colour_verdict m ipv colour.Green = verdict.Pass ipv false
colour_verdict m ipv colour.Yellow = if m.drop_yellow then verdict.YellowDropped else verdict.Pass ipv true
colour_verdict m ipv colour.Red = verdict.Red

-- Verdict on a frame that passed its gate: by the colour from the filter's meter, or Pass if the filter has no meter.
abbrev pub meter_verdict : PolicePlans → List FilterStep → FilterInput → Option ℕ → Option ℕ → Verdict
meter_verdict p ss c ipv None = verdict.Pass ipv false
meter_verdict p ss c ipv (Some m) = colour_verdict (p.meters m) ipv (meter.frame_colour (p.meters m) (meter.meter_history (p.meters m) (meter_share m ss)) c.at c.octets c.dei)

-- Verdict that follows from the stream gate's answer: the gate's reason if it refused the frame, otherwise the verdict
-- by the meter.
abbrev pub answer_verdict : PolicePlans → List FilterStep → FilterInput → FilterPlan → GateAnswer → Verdict
answer_verdict p ss c f (gate.Through ipv) = meter_verdict p ss c ipv f.meter
answer_verdict p ss c f gate.Closed = verdict.GateClosed
answer_verdict p ss c f gate.ShutByRx = verdict.ShutByRx
answer_verdict p ss c f gate.ShutByOctets = verdict.ShutByOctets
answer_verdict p ss c f gate.OctetsExceeded = verdict.OctetsExceeded

-- Answer of stream gate `g` to the frame `c`, which depends on the earlier results `ss` of events at this gate.
abbrev pub gate_answer : PolicePlans → List FilterStep → FilterInput → ℕ → GateAnswer
gate_answer p ss c g = answer (p.gates g) (gate_steps (p.gates g) (gate_share g ss)) c.at c.sdu

-- Verdict of filter `n` on the frame `c`: the first refusal by blocked flag, maximum SDU, stream gate or meter, in this
-- order, otherwise Pass.
abbrev pub frame_verdict : PolicePlans → List FilterStep → FilterInput → ℕ → FilterPlan → Verdict
frame_verdict p ss c n f =
    if f.block_oversize && is_blocked n ss then verdict.Blocked
    else if is_above_max f.max_sdu c.sdu then verdict.Oversize
    else answer_verdict p ss c f (gate_answer p ss c f.gate)

-- Result of the frame `c` after the earlier results `ss`: Unfiltered if no filter matches, otherwise the frame with its
-- filter and verdict.
abbrev pub input_step : PolicePlans → List FilterStep → FilterInput → Option (ℕ × FilterPlan) → FilterStep
input_step p ss c None = Unfiltered c
input_step p ss c (Some f) = Judged c f.0 f.1 (frame_verdict p ss c f.0 f.1)

-- List of results, one for each event at the stream filters, newest first; the verdict on a frame depends on all
-- earlier results.
abbrev pub filter_steps : PolicePlans → List FilterEvent → List FilterStep
filter_steps p [] = []
filter_steps p (Arrived c ∷ es) = input_step p (filter_steps p es) c (frame_filter p.filters c) ∷ filter_steps p es
filter_steps p (Cleared c n ∷ es) = Commanded c n ∷ filter_steps p es

-- Filter and verdict of a frame; `None` if no filter matches or the result belongs to a command.
abbrev pub step_ruling : FilterStep → Option Ruling
step_ruling (Unfiltered c) = None
step_ruling (Judged c n f v) = Some (record { filter = n; verdict = v })
step_ruling (Commanded c n) = None
