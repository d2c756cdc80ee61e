-- Counters, flags and bucket levels of a filter, from its verdicts.
use Rattle.std.specs.Prelude.{ℕ, Bool, true, false, ◌+◌, ◌&&◌, nat_eq, Option, Some, None, List, [], ◌∷◌, ◌++◌, length, count_by, if◌then◌else◌}
use Rattle.bridge_meter.specs.declared.Buckets.{Buckets}
use Rattle.bridge_meter.specs.Colours as meter
use Rattle.bridge_gate.specs.Gates as gates
use Rattle.bridge_filter.specs.declared.FilterPlan.{FilterPlan}
use Rattle.bridge_filter.specs.declared.Verdict.{Verdict}
use Rattle.bridge_filter.specs.declared.Verdict.TheVariants as verdict
use Rattle.bridge_filter.specs.declared.Counters.{Counters}
use Rattle.bridge_filter.specs.declared.Flags.{Flags}
use Rattle.bridge_filter.specs.Verdicts.{FilterEvent, Arrived, Cleared, PolicePlans, FilterStep, Unfiltered, Judged, Commanded, gate_share, meter_share, is_blocked, is_oversize, has_reached_gate, has_passed_gate}

-- Verdicts of filter `n`, oldest first, from a list of results that is newest first.
abbrev pub filter_verdicts : ℕ → List FilterStep → List Verdict
filter_verdicts n [] = []
filter_verdicts n (Unfiltered c ∷ ss) = filter_verdicts n ss
filter_verdicts n (Judged c m f v ∷ ss) = filter_verdicts n ss ++ (if nat_eq m n then v ∷ [] else [])
filter_verdicts n (Commanded c m ∷ ss) = filter_verdicts n ss

-- True if the stream gate refused the frame: the gate was closed, a flag had shut it, or the octet limit was exceeded.
abbrev pub is_refused_by_gate : Verdict → Bool
is_refused_by_gate verdict.GateClosed = true
is_refused_by_gate verdict.ShutByRx = true
is_refused_by_gate verdict.ShutByOctets = true
is_refused_by_gate verdict.OctetsExceeded = true
is_refused_by_gate v = false

-- True if the meter refused the frame: the frame was red, or it was yellow and the meter drops yellow frames.
abbrev pub is_dropped_by_meter : Verdict → Bool
is_dropped_by_meter verdict.Red = true
is_dropped_by_meter verdict.YellowDropped = true
is_dropped_by_meter v = false

-- Counters of a stream filter from the list of its verdicts; a frame with the verdict Blocked raises only the counter
-- `matching`.
abbrev pub verdict_counters : List Verdict → Counters
verdict_counters vs = record {
  matching = length vs;
  sdu_passed = count_by has_reached_gate vs;
  sdu_refused = count_by is_oversize vs;
  gate_passed = count_by has_passed_gate vs;
  gate_refused = count_by is_refused_by_gate vs;
  red = count_by is_dropped_by_meter vs;
}

-- True if the red flag of the filter's meter is set after the results `ss`; false if the filter has no meter (`None`).
abbrev pub is_meter_red : PolicePlans → Option ℕ → List FilterStep → Bool
is_meter_red p None ss = false
is_meter_red p (Some m) ss = (meter.meter_history (p.meters m) (meter_share m ss)).all_red

-- Flags of filter `n`, its stream gate and its meter after the results `ss`; a flag that the plan doesn't enable is false.
abbrev pub filter_flags : PolicePlans → ℕ → FilterPlan → List FilterStep → Flags
filter_flags p n f ss = record {
  blocked = f.block_oversize && is_blocked n ss;
  rx = (p.gates f.gate).shut_on_rx && gates.is_shut_by_rx (gates.gate_steps (p.gates f.gate) (gate_share f.gate ss));
  octets = (p.gates f.gate).shut_on_octets && gates.is_shut_by_octets (gates.gate_steps (p.gates f.gate) (gate_share f.gate ss));
  red = is_meter_red p f.meter ss;
}

-- Bucket levels of the filter's meter after the results `ss`, in units of 1/(8*10^9) octet; `None` if the filter has no meter.
abbrev pub filter_buckets : PolicePlans → Option ℕ → List FilterStep → Option Buckets
filter_buckets p None ss = None
filter_buckets p (Some m) ss = Some (meter.history_buckets (p.meters m) (meter.meter_history (p.meters m) (meter_share m ss)))

-- Number of arrived frames in a list of events; commands don't count.
abbrev pub count_arrivals : List FilterEvent → ℕ
count_arrivals [] = 0
count_arrivals (Arrived c ∷ es) = count_arrivals es + 1
count_arrivals (Cleared c n ∷ es) = count_arrivals es

-- Arrival time in ns of the newest frame, or 0 before the first frame.
abbrev pub last_frame_time : List FilterEvent → ℕ
last_frame_time [] = 0
last_frame_time (Arrived c ∷ es) = c.at
last_frame_time (Cleared c n ∷ es) = last_frame_time es
