-- Computed examples of groups: a class that 20 streams of a vehicle share.
use Rattle.std.specs.Prelude.{◌≡◌, ℕ, zero, suc, ◌+◌, ◌*◌, ◌/◌, true, false, List, [], ◌∷◌, ◌++◌, Option, None, Some, nat_eq, nat_lt, pos, if◌then◌else◌, refl}
use Rattle.bridge_frame.specs.declared.Speed.TheVariants.{Mbps1000, Mbps10000}
use Rattle.bridge_frame.specs.Link.{transmission_time}
use Rattle.bridge_cycle.specs.declared.timeline.Turn.{Turn}
use Rattle.bridge_gate.specs.declared.schedule.GateEntry.{GateEntry}
use Rattle.bridge_gate.specs.declared.stream_gate.GateAnswer.TheVariants.{Closed, Through}
use Rattle.bridge_gate.specs.Gates.{Answered, GateStep}
use Rattle.bridge_meter.specs.declared.MeterPlan.{MeterPlan}
use Rattle.bridge_filter.specs.declared.Clear.TheVariants as clear
use Rattle.bridge_filter.specs.declared.FilterPlan.{FilterPlan}
use Rattle.bridge_port.specs.Schedule.{Full, Started}
use Rattle.bridge_semantics.specs.Events.{Arrived, Cleared, arrival}
use Rattle.bridge_semantics.specs.Offers.{CarriedFrame, Offer}
use Rattle.bridge_groups.specs.Admission.{are_open_entries, committed_tokens, has_tokens}
use Rattle.bridge_groups.specs.Costs.{frame_cost, recent_filter_cost, recent_offer_cost, recent_sharer_cost}
use Rattle.bridge_groups.specs.CostCurves.{HasLongStarts, cost_sum, octet_cost, rounding_margin}
use Rattle.bridge_groups.specs.Curves.{burst_sum, count_filter_offers, count_recent_offers, count_sharer_offers, curve_sum, frame_limit, gate_curve, has_filter_number, last_arrival_time, meter_curve, optional_burst, rate_sum, recent_filter_octets, recent_filter_work, recent_offer_work, recent_sharer_octets, recent_sharer_work}
use Rattle.bridge_groups.specs.Departures.{filter_passages}
use Rattle.bridge_groups.specs.GateLimits.{is_same_turn, octet_budget, recent_passed_octets}
use Rattle.bridge_groups.specs.GateIntervals.{turn_limit}
use Rattle.bridge_groups.specs.GroupRows.{group_from, least_group}
use Rattle.bridge_groups.specs.Sharers.{are_metered, longest_sdu, sdu_or_zero}
use Rattle.bridge_groups.specs.Talkers.{IsAlwaysOpen}

-- 20 STREAMS

-- A meter that passes `burst` octets at once, then `rate` bit/s.
abbrev meter : ℕ → ℕ → MeterPlan
meter burst rate = record { cir = rate; cbs = burst; eir = 0; ebs = 0; coupling = false; aware = false; drop_yellow = true; mark_all_red = false }

-- Meter 1 passes a radar frame in 10 ms, meter 2 a lidar frame in 20 ms, meter 3 a brake frame in 1 ms.
abbrev meters : ℕ → MeterPlan
meters n = if nat_eq n 1 then meter 276 220800 else if nat_eq n 2 then meter 1020 408000 else meter 84 672000

-- A filter of stream `handle` with the gate of this number and meter `kind`.
abbrev filter : ℕ → ℕ → FilterPlan
filter handle kind = record { handle = Some handle; priority = Some 6; gate = handle; max_sdu = Some 1500; meter = Some kind; block_oversize = false; protected = false; group = Some 1 }

-- `n` filters with meter `kind`, with numbers that rise from `first`.
abbrev filters : ℕ → ℕ → ℕ → List (ℕ × FilterPlan)
filters zero first kind = []
filters (suc n) first kind = (first, filter first kind) ∷ filters n (suc first) kind

abbrev twenty : List (ℕ × FilterPlan)
twenty = filters 8 1 1 ++ filters 6 9 2 ++ filters 6 15 3

pub longest_of_twenty : longest_sdu twenty ≡ 1500
longest_of_twenty = refl

pub no_limit : sdu_or_zero None ≡ 0
no_limit = refl

pub all_metered : are_metered twenty ≡ true
all_metered = refl

pub first_group : least_group 0 twenty ≡ Some 1
first_group = refl

pub no_later_group : least_group 2 twenty ≡ None
no_later_group = refl

pub group_below : group_from 2 (Some 1) ≡ None
group_below = refl

pub burst_without_a_meter : optional_burst meters None ≡ 0
burst_without_a_meter = refl

pub burst_of_twenty : burst_sum meters twenty ≡ 8832
burst_of_twenty = refl

pub rate_of_twenty : rate_sum meters twenty ≡ 8246400
rate_of_twenty = refl

-- The burst takes at most 92,736 ns at 1 Gbit/s: the shortest frames have 84 octets on the link for 64 metered ones.
pub work_of_twenty : transmission_time 60 Mbps1000 * burst_sum meters twenty / 64 ≡ 92736
unfolding transmission_time
work_of_twenty = refl

pub frames_of_twenty : frame_limit meters twenty 0 ≡ 128
frames_of_twenty = refl

-- In 10 ms, the meters pass at most 8, 23 and 14 frames for each radar, lidar and brake.
pub frames_in_10_ms : frame_limit meters twenty 10000000 ≡ 286
frames_in_10_ms = refl

pub curve_of_a_radar : meter_curve (meters 1) Mbps1000 0 ≡ 2898
unfolding transmission_time
curve_of_a_radar = refl

-- A gate that passes 1,000 octets of service data units at once.
pub curve_of_a_gate : gate_curve (λ w. 1000) Mbps1000 0 ≡ 15272
unfolding transmission_time
curve_of_a_gate = refl

pub sum_of_two_curves : curve_sum (λ n w. n * 100 + w) (filters 2 1 1) 7 ≡ 314
sum_of_two_curves = refl

-- OFFERS

pub newest_arrival : last_arrival_time (Cleared clear.Blocked 1 ∷ Arrived (arrival 900 1 [] 60) ∷ []) ≡ 900
newest_arrival = refl

-- Offers of filter 2 at 900 ns, of filter 1 at 500 ns, and of an unfiltered frame at 100 ns.
abbrev offer : ℕ → Option ℕ → ℕ → Offer
offer at number len = record { at = at; class = 6; item = record { at = at; flow = number; own = 1; len = len; octets = [] } }

abbrev three : List Offer
three = offer 900 (Some 2) 60 ∷ offer 500 (Some 1) 1514 ∷ offer 100 None 60 ∷ []

pub unfiltered : has_filter_number None 2 ≡ false
unfiltered = refl

pub octets_of_filter_2 : recent_filter_octets 2 500 three ≡ 64
octets_of_filter_2 = refl

pub octets_of_both : recent_sharer_octets (filters 2 1 1) 500 three ≡ 1582
octets_of_both = refl

pub offers_of_filter_2 : count_filter_offers 2 500 three ≡ 1
offers_of_filter_2 = refl

pub offers_of_both : count_sharer_offers (filters 2 1 1) 500 three ≡ 2
offers_of_both = refl

pub all_offers : count_recent_offers 100 three ≡ 3
all_offers = refl

pub work_of_all : recent_offer_work Mbps1000 100 three ≡ 672 + 12304 + 672
unfolding transmission_time
work_of_all = refl

pub work_of_filter_1 : recent_filter_work Mbps1000 1 100 three ≡ 12304
unfolding transmission_time
work_of_filter_1 = refl

pub work_of_both : recent_sharer_work Mbps1000 (filters 2 1 1) 100 three ≡ 672 + 12304
unfolding transmission_time
work_of_both = refl

-- COSTS

-- If a bound counts fits of the shortest frames, a frame of 1,514 octets costs 12,304 ns and 11,632 ns more.
pub cost_of_a_long_frame : frame_cost 672 Mbps1000 1514 ≡ 12304 + 11632
unfolding transmission_time
cost_of_a_long_frame = refl

pub cost_of_a_short_frame : frame_cost 672 Mbps1000 60 ≡ 672
unfolding transmission_time
cost_of_a_short_frame = refl

pub cost_of_all : recent_offer_cost (λ len. len) 500 three ≡ 1574
cost_of_all = refl

pub cost_of_filter_1 : recent_filter_cost (λ len. len) 1 500 three ≡ 1514
cost_of_filter_1 = refl

pub cost_of_both : recent_sharer_cost (λ len. len) (filters 2 1 1) 500 three ≡ 1574
cost_of_both = refl

-- At 1 Gbit/s an octet takes 8 ns; at 10 Gbit/s, transmission times are rounded up.
pub no_margin : rounding_margin Mbps1000 ≡ 0
no_margin = refl

pub margin : rounding_margin Mbps10000 ≡ 2
margin = refl

-- A lidar frame has at most 1,000 octets of SDU, so 1,020 metered octets, and needs 8,320 ns. If a bound counts fits of the
-- shortest frames, it costs 15,968 ns.
pub cost_of_a_lidar_octet : octet_cost 672 Mbps1000 1000 ≡ 2004
unfolding transmission_time
cost_of_a_lidar_octet = refl

-- For fits of 5,930 ns, it costs 10,710 ns: per metered octet no more than a shortest frame, with 672 ns for 64 octets.
pub cost_of_a_plain_octet : octet_cost 5930 Mbps1000 1000 ≡ 2 * 672
unfolding transmission_time
cost_of_a_plain_octet = refl

pub cost_of_two_radars : cost_sum (λ f. 276) 5930 Mbps1000 (filters 2 1 1) ≡ 2 * 276 * 1576
unfolding transmission_time
cost_of_two_radars = refl

pub always_open_class : HasLongStarts (λ u. true) 1 2
always_open_class = λ v shut fits u from before. refl

-- OCTET LIMITS

-- A gate is open from 0 to 999 ns for 500 octets, from 1,000 to 1,999 ns for 700 octets, and closed afterwards.
abbrev open_turn : ℕ → ℕ → ℕ → Turn GateEntry
open_turn start end octets = record { state = record { lets = true; ipv = None; octets = Some octets }; start = pos start; end = end }

abbrev turns : ℕ → Option (Turn GateEntry)
turns t = if nat_lt t 1000 then Some (open_turn 0 1000 500) else if nat_lt t 2000 then Some (open_turn 1000 2000 700) else None

pub limit_of_a_turn : turn_limit (turns 999) ≡ 500
limit_of_a_turn = refl

pub limit_of_a_closed_gate : turn_limit (turns 2000) ≡ 0
limit_of_a_closed_gate = refl

pub one_turn : is_same_turn (turns 0) (turns 999) ≡ true
one_turn = refl

pub two_turns : is_same_turn (turns 999) (turns 1000) ≡ false
two_turns = refl

-- From 998 ns to 999 ns, there is one interval; from 998 ns to 1,000 ns, there are two.
pub budget_of_one_turn : octet_budget turns 998 1 ≡ 500
budget_of_one_turn = refl

pub budget_of_two_turns : octet_budget turns 998 2 ≡ 1200
budget_of_two_turns = refl

-- Frames of 50 and 46 octets passed; the gate refused the third frame.
abbrev answered : List GateStep
answered = Answered 2000 46 Closed ∷ Answered 900 46 (Through None) ∷ Answered 400 50 (Through None) ∷ []

pub octets_that_passed : recent_passed_octets 900 answered ≡ 46
octets_that_passed = refl

-- TALKERS AND DEPARTURES

pub fixed_gate : IsAlwaysOpen (record { turn_at = λ t. Some (record { state = record { lets = true; ipv = None; octets = None }; start = pos 0; end = 0 }); shut_on_rx = false; shut_on_octets = false })
fixed_gate = λ t. (record { state = record { lets = true; ipv = None; octets = None }; start = pos 0; end = 0 }, refl, refl, refl)

-- Meter 1 has tokens for a radar frame of 272 octets in 10 ms, with its frame check sequence, and for no octet more.
pub tokens_of_a_frame : has_tokens (committed_tokens meters (Some 1)) 276 220800 ≡ true
tokens_of_a_frame = refl

pub no_token_more : has_tokens (committed_tokens meters (Some 1)) 277 220800 ≡ false
no_token_more = refl

pub no_meter : has_tokens (committed_tokens meters None) 64 0 ≡ false
no_meter = refl

-- An entry with an octet limit isn't open for a burst.
abbrev entry : Option ℕ → GateEntry
entry octets = record { lets = true; ipv = Some 6; octets = octets }

pub entries_without_limit : are_open_entries ((entry None, 1000) ∷ (entry None, 500) ∷ []) ≡ true
entries_without_limit = refl

pub entry_with_limit : are_open_entries ((entry None, 1000) ∷ (entry (Some 1500), 500) ∷ []) ≡ false
entry_with_limit = refl

-- A copy of filter 1 started at 1,000 ns and left at 1,672 ns; a copy of filter 2 was dropped.
abbrev copy : ℕ → ℕ → CarriedFrame
copy number at = record { at = at; flow = Some number; own = 1; len = 60; octets = [] }

pub departure_of_filter_1 : filter_passages 1 Mbps1000 (record { at = 950; class = 6; item = copy 2 950; fate = Full } ∷ record { at = 900; class = 6; item = copy 1 900; fate = Started 1000 } ∷ []) ≡ record { arrival = 900; departure = 1672; octets = 64 } ∷ []
unfolding transmission_time
departure_of_filter_1 = refl
