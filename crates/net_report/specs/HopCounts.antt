-- Counts and delays of delivered and lost copies at a hop.
use Rattle.std.specs.Prelude.{ℕ, ◌-◌, Bool, true, false, not, Option, Some, None, List, [], ◌∷◌, length, count_by, flat_map, map}
use Rattle.bridge_filter.specs.declared.Verdict.{Verdict}
use Rattle.bridge_filter.specs.declared.Verdict.TheVariants as verdict
use Rattle.bridge_port.specs.declared.item.Refusal.{Refusal}
use Rattle.bridge_port.specs.declared.item.Refusal.TheVariants as refusal
use Rattle.bridge_semantics.specs.declared.outcome.Departure.{Departure}
use Rattle.bridge_semantics.specs.declared.outcome.Dropped.{Dropped}
use Rattle.bridge_semantics.specs.declared.outcome.Origin.{Origin}
use Rattle.bridge_semantics.specs.declared.outcome.View.{View}
use Rattle.bridge_report.specs.Figures.{at_of}
use Rattle.net_report.specs.declared.hop_counting.HopCounts.{HopCounts}
use Rattle.net_report.specs.declared.sources.SourceFrame.{SourceFrame}
use Rattle.net_report.specs.Hops.{is_onward}
use Rattle.net_report.specs.SourceFrames.{source_frame}

-- True if a verdict is `Pass`: the filter passed the frame.
abbrev pub is_pass : Verdict → Bool
is_pass (verdict.Pass ipv eligible) = true
is_pass v = false

-- True if a frame was refused because an earlier oversize frame blocked the filter.
abbrev pub is_blocked : Verdict → Bool
is_blocked verdict.Blocked = true
is_blocked v = false

-- True if a frame was refused because its service data unit is above the filter's maximum.
abbrev pub is_oversize : Verdict → Bool
is_oversize verdict.Oversize = true
is_oversize v = false

-- True if a frame was refused because its stream gate was closed.
abbrev pub is_gate_closed : Verdict → Bool
is_gate_closed verdict.GateClosed = true
is_gate_closed v = false

-- True if a frame was refused because an earlier frame, which arrived while the stream gate was closed, had shut the
-- gate.
abbrev pub is_shut_rx : Verdict → Bool
is_shut_rx verdict.ShutByRx = true
is_shut_rx v = false

-- True if a frame was refused because an earlier frame with too many octets had shut the stream gate.
abbrev pub is_shut_octets : Verdict → Bool
is_shut_octets verdict.ShutByOctets = true
is_shut_octets v = false

-- True if a frame was refused because it has more octets than are left in the stream gate's interval.
abbrev pub is_octets_exceeded : Verdict → Bool
is_octets_exceeded verdict.OctetsExceeded = true
is_octets_exceeded v = false

-- True if a frame was refused because the meter coloured it red.
abbrev pub is_red : Verdict → Bool
is_red verdict.Red = true
is_red v = false

-- True if a frame was refused because the meter coloured it yellow, and drops yellow frames.
abbrev pub is_yellow_dropped : Verdict → Bool
is_yellow_dropped verdict.YellowDropped = true
is_yellow_dropped v = false

-- True if the reason for which a copy was dropped is a full queue.
abbrev pub is_full_queue : Refusal → Bool
is_full_queue refusal.Full = true
is_full_queue refusal.NeverFits = false

-- True if a copy was dropped because its queue was full.
abbrev pub is_full : Dropped → Bool
is_full d = is_full_queue d.refusal

-- True if a copy was dropped because it fits at no time.
abbrev pub never_fits : Dropped → Bool
never_fits d = not (is_full_queue d.refusal)

-- True if a copy left by a port that, by `ways`, leads to no hop.
abbrev pub is_delivery : List Bool → Departure → Bool
is_delivery ways d = not (is_onward ways d.port)

-- The counts of a hop from its record. `ways` has for each port whether it leads to a hop.
abbrev pub counts_by_ports : {A : Type 0} → List Bool → View A → HopCounts
counts_by_ports ways v = record {
  frames = length v.origins.items;
  delivered = count_by (is_delivery ways) v.departures.items;
  blocked = count_by is_blocked v.verdicts.items;
  oversize = count_by is_oversize v.verdicts.items;
  gate_closed = count_by is_gate_closed v.verdicts.items;
  shut_rx = count_by is_shut_rx v.verdicts.items;
  shut_octets = count_by is_shut_octets v.verdicts.items;
  octets_exceeded = count_by is_octets_exceeded v.verdicts.items;
  red = count_by is_red v.verdicts.items;
  yellow_dropped = count_by is_yellow_dropped v.verdicts.items;
  full = count_by is_full v.drops.items;
  never = count_by never_fits v.drops.items;
}

-- The delay of a copy since its frame's arrival at the first hop, as a list; empty if the source is unknown.
abbrev pub delay_if_known : Departure → Option SourceFrame → List ℕ
delay_if_known d None = []
delay_if_known d (Some r) = (d.done - r.came) ∷ []

-- The list `delays` for a delivered copy (`false`), an empty list for a copy whose port leads to a hop (`true`).
abbrev pub if_delivered : Bool → List ℕ → List ℕ
if_delivered true delays = []
if_delivered false delays = delays

-- The delay of a copy as a list; empty unless it was delivered (by `ways`) and its source is known.
abbrev pub delay_of : List Bool → List (Option SourceFrame) → Departure → List ℕ
delay_of ways roots d = if_delivered (is_onward ways d.port) (delay_if_known d (source_frame roots d.own))

-- The delays of the copies that a hop delivered (by `ways`), in the order of leaving.
abbrev pub departure_delays : List Bool → List (Option SourceFrame) → List Departure → List ℕ
departure_delays ways roots departures = flat_map (delay_of ways roots) departures

-- The delay of a copy at its hop: from the frame's arrival there to the end of the copy's transmission.
abbrev pub delay_at_hop : List Origin → Departure → ℕ
delay_at_hop origins d = d.done - at_of origins d.own

-- The delays at a hop of all copies that left it, in the order of leaving.
abbrev pub delays_at_hop : List Origin → List Departure → List ℕ
delays_at_hop origins departures = map (delay_at_hop origins) departures
