-- Computed examples of arrival curves, meters' allowances and talkers.
use Rattle.std.specs.Prelude.{◌≡◌, ℕ, ◌+◌, ◌*◌, Bool, true, false, None, Some, List, [], ◌∷◌, map, nat_eq, refl}
use Rattle.bridge_cycle.specs.Cyclic.{Cyclic}
use Rattle.bridge_gate.specs.declared.schedule.GateEntry.{GateEntry}
use Rattle.bridge_meter.specs.declared.MeterPlan.{MeterPlan}
use Rattle.bridge_meter.specs.Bounds.{JudgedFrame}
use Rattle.bridge_meter.specs.Colours.{Arrived, Cleared, MeterEvent}
use Rattle.bridge_port.specs.Schedule.{Copy, Queued, Started}
use Rattle.bridge_groups.specs.Work.{count_recent_copies, recent_cost}
use Rattle.bridge_groups.specs.MeterAllowance.{green_frames, last_metered_time, meter_allowance, meter_burst, meter_rate, recent_octets, recent_passed_units}
use Rattle.bridge_groups.specs.MergedGates.{first_end, is_any_open, limit_sum}
use Rattle.bridge_groups.specs.GateIntervals.{gate_opens, last_opening, opening_work}
use Rattle.bridge_groups.specs.ApartParts.{part_copies}
use Rattle.bridge_groups.specs.Hops.{Passage, recent_arrived_octets, recent_departed_octets}
use Rattle.bridge_groups.specs.TalkerFrames.{SentFrame, count_recent_frames, last_send_time, recent_sent_octets}

-- Copies of 84, 84 and 1,538 octets on a link of 1 Gbit/s, offered at 900, 500 and 100 ns. The item is the transmission
-- time in ns.
abbrev three_copies : List (Copy ℕ)
three_copies = record { at = 900; class = 6; item = 672; fate = Queued } ∷ record { at = 500; class = 6; item = 672; fate = Queued } ∷ record { at = 100; class = 6; item = 12304; fate = Started 100 } ∷ []

pub work_of_the_last_two : recent_cost (λ n. n) 500 three_copies ≡ 1344
work_of_the_last_two = refl

pub count_of_the_last_two : count_recent_copies 500 three_copies ≡ 2
count_of_the_last_two = refl

-- The copies whose transmission takes 672 ns are one part of the queue's copies.
pub part_of_short_frames : map (λ (x : Copy ℕ). x.at) (part_copies (λ (n : ℕ). nat_eq n 672) three_copies) ≡ 900 ∷ 500 ∷ []
part_of_short_frames = refl

-- A meter for one frame of 272 octets, 276 with its frame check sequence, in each 10 ms: 220,800 bit/s. The excess
-- bucket takes one more frame.
abbrev radar : Bool → MeterPlan
radar drop = record { cir = 220800; cbs = 276; eir = 0; ebs = 276; coupling = false; aware = false; drop_yellow = drop; mark_all_red = false }

pub burst_with_yellow : meter_burst (radar false) ≡ 552
burst_with_yellow = refl

pub burst_without_yellow : meter_burst (radar true) ≡ 276
burst_without_yellow = refl

pub rate_without_excess : meter_rate (radar false) ≡ 220800
rate_without_excess = refl

-- In 10 ms the rate gives one frame more.
pub allowance_of_a_period : meter_allowance (radar true) 10000000 ≡ meter_allowance (radar true) 0 + meter_allowance (radar true) 0
allowance_of_a_period = refl

-- A green frame at 900 ns, a yellow one at 500 ns.
abbrev judged : List JudgedFrame
judged = record { at = 900; green = 10; yellow = 0 } ∷ record { at = 500; green = 0; yellow = 20 } ∷ []

pub units_with_yellow : recent_passed_units false 500 judged ≡ 30
units_with_yellow = refl

pub units_without_yellow : recent_passed_units true 500 judged ≡ 10
units_without_yellow = refl

-- Frames of 64 and 68 octets, and a command between them.
abbrev metered : List MeterEvent
metered = Arrived 900 64 false ∷ Cleared ∷ Arrived 500 68 false ∷ []

pub octets_at_the_meter : recent_octets 500 metered ≡ 132
octets_at_the_meter = refl

pub newest_at_the_meter : last_metered_time metered ≡ 900
newest_at_the_meter = refl

pub octets_of_green_frames : recent_passed_units true 900 (green_frames metered) ≡ 64 * 8000000000
octets_of_green_frames = refl

-- Two frames that pass through a hop in 100 and 700 ns.
abbrev passed : List Passage
passed = record { arrival = 1000; departure = 1100; octets = 64 } ∷ record { arrival = 400; departure = 1100; octets = 68 } ∷ []

pub octets_that_arrived : recent_arrived_octets 500 passed ≡ 64
octets_that_arrived = refl

pub octets_that_left : recent_departed_octets 500 passed ≡ 132
octets_that_left = refl

-- Three frames of a talker, 500 ns apart.
abbrev sent : List SentFrame
sent = record { at = 1500; octets = 64 } ∷ record { at = 1000; octets = 64 } ∷ record { at = 500; octets = 64 } ∷ []

pub octets_sent : recent_sent_octets 1000 sent ≡ 128
octets_sent = refl

-- The frame that was sent exactly one period earlier doesn't count.
pub frames_in_a_period : count_recent_frames 1000 1500 sent ≡ 2
frames_in_a_period = refl

pub last_frame_sent : last_send_time sent ≡ 1500
last_frame_sent = refl

-- A stream gate that opens from 1 to 4 ns of each 10 ns, with 88 octets an opening.
abbrev pub short_openings : Cyclic GateEntry
short_openings = record { base = 1; cycle = 10; entries = (record { lets = true; ipv = None; octets = Some 88 }, 3) ∷ (record { lets = false; ipv = None; octets = None }, 7) ∷ [] }

pub open_at_its_base : gate_opens short_openings 1 ≡ true
open_at_its_base = refl

pub closed_after_the_entry : gate_opens short_openings 4 ≡ false
closed_after_the_entry = refl

-- While the gate is closed, the latest opening stays.
pub opened_before : last_opening short_openings 9 ≡ 1
opened_before = refl

pub opened_again : last_opening short_openings 12 ≡ 11
opened_again = refl

-- 88 octets of SDUs are at most two frames of 60 octets, which take 672 ns each at 1 Gbit/s.
pub work_of_two_frames : opening_work short_openings 672 44 11 ≡ 1344
work_of_two_frames = refl

-- A second stream gate that opens from 3 to 6 ns, with 44 octets an opening.
abbrev pub later_openings : Cyclic GateEntry
later_openings = record { base = 3; cycle = 10; entries = (record { lets = true; ipv = None; octets = Some 44 }, 3) ∷ (record { lets = false; ipv = None; octets = None }, 7) ∷ [] }

abbrev pub both_gates : List (Cyclic GateEntry)
both_gates = short_openings ∷ later_openings ∷ []

-- At 3 ns both gates are open, so both limits count.
pub limits_of_both_gates : limit_sum both_gates 3 ≡ 132
limits_of_both_gates = refl

pub limit_of_the_later_gate : limit_sum both_gates 5 ≡ 44
limit_of_the_later_gate = refl

pub no_gate_is_open : is_any_open both_gates 6 ≡ false
no_gate_is_open = refl

-- The first gate closes at 4 ns, so an entry of the merged list ends there.
pub first_gate_to_close : first_end both_gates 3 10 ≡ 4
first_gate_to_close = refl
