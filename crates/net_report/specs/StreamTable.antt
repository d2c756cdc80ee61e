-- Rows of the table of streams, each with its line feed.
use Rattle.std.specs.Prelude.{ℕ, ◌+◌, ◌-◌, Bool, true, false, ◌&&◌, nat_eq, nat_le, Option, Some, None, List, ◌++◌, count_by, length, sum_by, codes, decimal, if◌then◌else◌}
use Rattle.net_report.specs.declared.statistics.DelayStatistics.{DelayStatistics}
use Rattle.net_report.specs.declared.hop_counting.HopCounts.{HopCounts}
use Rattle.net_report.specs.declared.copy_counting.CopyCounts.{CopyCounts}
use Rattle.net_report.specs.CopyCounts.{astray, is_delivered}

-- The fields of delay statistics in ns: least, mean, greatest, jitter. Empty fields without a delay.
abbrev pub statistics_words : Option DelayStatistics → List ℕ
statistics_words None = codes ",,,,"
statistics_words (Some f) = decimal f.least ++ (codes "," ++ (decimal f.mean ++ (codes "," ++ (decimal f.greatest ++ (codes "," ++ (decimal f.jitter ++ codes ","))))))

-- Number of frames that a hop's filter refused, plus copies that its ports dropped.
abbrev pub lost_copies : HopCounts → ℕ
lost_copies c = c.blocked + c.oversize + c.gate_closed + (c.shut_rx + c.shut_octets) + (c.octets_exceeded + c.red) + (c.yellow_dropped + c.full + c.never)

-- The fields with the number of losses at a hop for each cause.
unfoldable pub reason_words : HopCounts → List ℕ
reason_words c = decimal c.blocked ++ (codes "," ++ (decimal c.oversize ++ (codes "," ++ (decimal c.gate_closed ++ (codes "," ++ (decimal c.shut_rx
    ++ (codes "," ++ (decimal c.shut_octets ++ (codes "," ++ (decimal c.octets_exceeded ++ (codes "," ++ (decimal c.red ++ (codes ","
    ++ (decimal c.yellow_dropped ++ (codes "," ++ (decimal c.full ++ (codes "," ++ (decimal c.never ++ codes ","))))))))))))))))))

-- The beginning of a row of a hop of `stream`, up to the number of its losses.
unfoldable pub hop_start : List ℕ → List ℕ → HopCounts → List ℕ
hop_start stream hop c = stream ++ (codes "," ++ (hop ++ (codes "," ++ (decimal c.frames ++ (codes "," ++ (decimal c.delivered ++ (codes "," ++ (decimal (lost_copies c) ++ codes ","))))))))

-- The last two fields of a hop's row: least and greatest delay at the hop, or empty fields if no copy left.
abbrev pub hop_delay_words : Option DelayStatistics → List ℕ
hop_delay_words None = codes ",\n"
hop_delay_words (Some f) = decimal f.least ++ (codes "," ++ (decimal f.greatest ++ codes "\n"))

-- The row of a hop of `stream`: counts, losses by cause, delays of delivered copies (`figures`), and delays at the hop (`here`).
unfoldable pub hop_line : List ℕ → List ℕ → HopCounts → Option DelayStatistics → Option DelayStatistics → List ℕ
hop_line stream hop c figures here = hop_start stream hop c ++ (reason_words c ++ (codes "," ++ (statistics_words figures ++ (codes ",,,,," ++ hop_delay_words here))))

-- Number of delivered first-hop frames: a copy was delivered, and no copy was refused, dropped or astray.
abbrev pub delivered_frames : List CopyCounts → ℕ
delivered_frames tallies = count_by is_delivered tallies

-- The beginning of a stream's row: frames, delivered and lost frames, and astray copies.
unfoldable pub stream_start : List ℕ → List CopyCounts → List ℕ
stream_start stream tallies = stream ++ (codes ",all," ++ (decimal (length tallies) ++ (codes "," ++ (decimal (delivered_frames tallies) ++ (codes ","
    ++ (decimal (length tallies - delivered_frames tallies) ++ (codes ",,,,,,,,,,," ++ (decimal (sum_by astray tallies) ++ codes ","))))))))

-- True if no copy's delay exceeds the deadline `deadline`, in ns; also if no copy was delivered.
abbrev pub is_below_deadline : Option DelayStatistics → ℕ → Bool
is_below_deadline None deadline = true
is_below_deadline (Some f) deadline = nat_le f.greatest deadline

-- True if all frames of a stream were delivered, and no copy's delay exceeds a deadline.
abbrev pub is_deadline_met : List CopyCounts → Option DelayStatistics → ℕ → Bool
is_deadline_met tallies figures deadline = nat_eq (delivered_frames tallies) (length tallies) && is_below_deadline figures deadline

-- A comma and a word: `none` for a stream without frames, otherwise `met` or `missed` for its deadline.
abbrev pub met_word : Bool → Bool → List ℕ
met_word true met = codes ",none"
met_word false true = codes ",met"
met_word false false = codes ",missed"

-- A deadline in ns and whether it was met, or two empty fields without a deadline.
abbrev pub deadline_words : List CopyCounts → Option DelayStatistics → Option ℕ → List ℕ
deadline_words tallies figures None = codes ","
deadline_words tallies figures (Some d) = decimal d ++ met_word (nat_eq (length tallies) 0) (is_deadline_met tallies figures d)

-- The worst delay of a talker's frames; an empty field if it is unknown.
abbrev pub worst_words : Option ℕ → List ℕ
worst_words None = codes ","
worst_words (Some w) = decimal w ++ codes ","

-- Deadline `d` less worst delay `w`; negative if the delay exceeds the deadline.
abbrev pub difference_words : ℕ → ℕ → List ℕ
difference_words d w = if nat_le w d then decimal (d - w) else codes "-" ++ decimal (w - d)

-- The margin: deadline less worst delay. Empty if either is missing.
abbrev pub margin_words : Option ℕ → Option ℕ → List ℕ
margin_words None worst = codes ""
margin_words (Some d) None = codes ""
margin_words (Some d) (Some w) = difference_words d w

-- The row of a whole stream: counts, delays, bound, deadline, worst delay, and margin. Its fields of delays at a hop are empty.
unfoldable pub stream_line : List ℕ → List CopyCounts → Option DelayStatistics → ℕ → Option ℕ → Option ℕ → List ℕ
stream_line stream tallies figures bound deadline worst = stream_start stream tallies ++ (statistics_words figures ++ (decimal bound ++ (codes ","
    ++ (deadline_words tallies figures deadline ++ (codes "," ++ (worst_words worst ++ (margin_words deadline worst ++ codes ",,\n")))))))
