-- The report section of a stream filter. Each line ends with a line feed.
use Rattle.std.specs.Prelude.{ℕ, Bool, true, false, ◌+◌, Option, Some, None, List, [], ◌∷◌, ◌++◌, length, count_by, flat_map, codes, decimal}
use Rattle.bridge_meter.specs.declared.Buckets.{Buckets}
use Rattle.bridge_filter.specs.declared.Verdict.{Verdict}
use Rattle.bridge_filter.specs.declared.Counters.{Counters}
use Rattle.bridge_filter.specs.declared.Flags.{Flags}
use Rattle.bridge_port.specs.declared.item.Refusal.{Refusal}
use Rattle.bridge_port.specs.declared.item.Refusal.TheVariants as refusal
use Rattle.bridge_semantics.specs.declared.outcome.Departure.{Departure}
use Rattle.bridge_semantics.specs.declared.outcome.Dropped.{Dropped}
use Rattle.bridge_semantics.specs.declared.outcome.View.{View}
use Rattle.bridge_report.specs.Words.{kind_word, flag_word, verdict_word, refusal_word}

-- The header line: the filter's number, and whether it is protected.
abbrev pub header_line : ℕ → Bool → List ℕ
header_line filter protected = codes "filter " ++ (decimal filter ++ (codes " " ++ (kind_word protected ++ codes "\n")))

-- The line with the number of frames that the filter matched.
abbrev pub matching_line : ℕ → List ℕ
matching_line matching = codes "matching " ++ (decimal matching ++ codes "\n")

-- The line of a test: its name, and the numbers of passed and refused frames.
abbrev pub test_line : List ℕ → ℕ → ℕ → List ℕ
test_line test passed refused = test ++ (codes " passed " ++ (decimal passed ++ (codes " refused " ++ (decimal refused ++ codes "\n"))))

-- The line with the number of frames that the meter discarded.
abbrev pub red_line : ℕ → List ℕ
red_line red = codes "red " ++ (decimal red ++ codes "\n")

-- The `matching`, `sdu`, `gate` and `red` lines of a filter: matching frames, tests of size and stream gate, and red
-- frames.
abbrev pub counter_lines : Counters → List ℕ
counter_lines c = matching_line c.matching ++ (test_line (codes "sdu") c.sdu_passed c.sdu_refused
    ++ (test_line (codes "gate") c.gate_passed c.gate_refused ++ red_line c.red))

-- A flag in a report line: a space, the flag's name, and its word `yes` or `no`.
abbrev pub named_flag : List ℕ → Bool → List ℕ
named_flag name flag = codes " " ++ (name ++ (codes " " ++ flag_word flag))

-- The names and values of the flags of a filter, its stream gate and its meter.
unfoldable pub all_flags : Flags → List ℕ
all_flags f = named_flag (codes "blocked") f.blocked ++ (named_flag (codes "rx") f.rx ++ (named_flag (codes "octets") f.octets ++ named_flag (codes "red") f.red))

-- The line with the flags of a filter, its stream gate and its meter.
abbrev pub flags_line : Flags → List ℕ
flags_line f = codes "flags" ++ (all_flags f ++ codes "\n")

-- The `bucket` line of a meter: their levels in units of 1/(8*10^9) octet, and the time in ns of these levels.
abbrev pub bucket_line : Option Buckets → List ℕ
bucket_line None = codes "bucket none\n"
bucket_line (Some b) = codes "bucket committed " ++ (decimal b.committed ++ (codes " excess " ++ (decimal b.excess
    ++ (codes " at " ++ (decimal b.at ++ codes "\n")))))

-- True if a port dropped the copy as `Full`: its queue had no free place.
abbrev pub is_full : Refusal → Bool
is_full refusal.Full = true
is_full refusal.NeverFits = false

-- True if the copy was dropped because it fits no window.
abbrev pub never_fits : Refusal → Bool
never_fits refusal.Full = false
never_fits refusal.NeverFits = true

-- The number of copies of a filter that ports dropped as `Full`.
abbrev pub count_full : List Dropped → ℕ
count_full drops = count_by (λ d. is_full d.refusal) drops

-- The number of copies that were dropped because they fit no window.
abbrev pub count_never_fits : List Dropped → ℕ
count_never_fits drops = count_by (λ d. never_fits d.refusal) drops

-- The `queued` line of a filter: how many copies of its frames left, and how many the ports dropped, by reason.
abbrev pub queued_line : List Departure → List Dropped → List ℕ
queued_line departures drops = codes "queued " ++ (decimal (length departures) ++ (codes " full " ++ (decimal (count_full drops)
    ++ (codes " never " ++ (decimal (count_never_fits drops) ++ codes "\n")))))

-- The `delay` line: the longest delay in ns, from a frame's arrival to the end of its transmission.
abbrev pub delay_line : Option ℕ → List ℕ
delay_line None = codes "delay none\n"
delay_line (Some delay) = codes "delay " ++ (decimal delay ++ codes "\n")

-- The `frame` line of a frame: number and verdict.
abbrev pub frame_line : ℕ → Verdict → List ℕ
frame_line number verdict = codes "frame " ++ (decimal number ++ (codes " " ++ (verdict_word verdict ++ codes "\n")))

-- The `frame` lines of frames that are numbered from `number`.
abbrev pub frame_lines : ℕ → List Verdict → List ℕ
frame_lines number [] = []
frame_lines number (verdict ∷ more) = frame_line number verdict ++ frame_lines (number + 1) more

-- The `drop` line of a dropped copy: the frame's number, the egress port and the reason.
abbrev pub drop_line : Dropped → List ℕ
drop_line d = codes "drop " ++ (decimal d.own ++ (codes " port " ++ (decimal d.port ++ (codes " " ++ (refusal_word d.refusal ++ codes "\n")))))

-- The `out` line of a copy that left: the frame's number, the egress port, and start and end of the transmission in ns.
abbrev pub departure_line : Departure → List ℕ
departure_line d = codes "out " ++ (decimal d.own ++ (codes " port " ++ (decimal d.port
    ++ (codes " start " ++ (decimal d.start ++ (codes " done " ++ (decimal d.done ++ codes "\n")))))))

-- The lines with the final counters, flags and buckets of a filter, its stream gate and its meter.
unfoldable pub state_lines : {A : Type 0} → ℕ → View A → List ℕ
state_lines filter view = header_line filter view.protected ++ (counter_lines view.counters ++ (flags_line view.flags ++ bucket_line view.buckets))

-- The lines with the counts of copies and the longest delay.
unfoldable pub copy_lines : {A : Type 0} → View A → List ℕ
copy_lines view = queued_line view.departures.items view.drops.items ++ delay_line view.delay

-- The `frame` lines, numbered from 1, then the `drop` lines, then the `out` lines.
unfoldable pub list_lines : {A : Type 0} → View A → List ℕ
list_lines view = frame_lines 1 view.verdicts.items ++ (flat_map drop_line view.drops.items ++ flat_map departure_line view.departures.items)

-- The section of filter `filter` in a run's report, from its record.
unfoldable pub section_text : {A : Type 0} → ℕ → View A → List ℕ
section_text filter view = state_lines filter view ++ (copy_lines view ++ (list_lines view ++ codes "end\n"))

-- The report of a run: the sections of all filters, in list order.
abbrev pub report_text : {A : Type 0} → List (ℕ × View A) → List ℕ
report_text filters = flat_map (λ f. section_text f.0 f.1) filters
