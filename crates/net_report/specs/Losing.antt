-- Lines of `net --strict`: one for each stream that lost a frame, and one for each stream whose deadline a copy missed.
use Rattle.std.specs.Prelude.{ℕ, ◌-◌, Bool, ◌&&◌, nat_eq, nat_le, nat_lt, Option, Some, None, List, [], ◌++◌, count_by, flat_map, length, sum_by, codes, decimal, string_bytes, if◌then◌else◌}
use Rattle.bridge_report.specs.declared.losses.Losses.{Losses}
use Rattle.bridge_report.specs.Losses.{loss_words, reason_words}
use Rattle.net_report.specs.declared.losing.HopLosses.{HopLosses}
use Rattle.net_report.specs.declared.hop_counting.HopCounts.{HopCounts}
use Rattle.bridge_report.specs.Figures.{greatest_of}
use Rattle.net_report.specs.StreamTable.{delivered_frames}
use Rattle.net_report.specs.declared.copy_counting.CopyCounts.{CopyCounts}
use Rattle.net_report.specs.CopyCounts.{astray}

-- Numbers of refused frames and dropped copies of a hop, in the form of `bridge_report`.
abbrev pub losses_at : HopCounts → Losses
losses_at c = record {
  blocked = c.blocked;
  oversize = c.oversize;
  gate_closed = c.gate_closed;
  shut_rx = c.shut_rx;
  shut_octets = c.shut_octets;
  octets_exceeded = c.octets_exceeded;
  red = c.red;
  yellow_dropped = c.yellow_dropped;
  full = c.full;
  never = c.never;
}

-- The words for the causes of losses at a hop, with the hop's name.
abbrev pub hop_words : {A : Type 0} → HopLosses A → List ℕ
hop_words h = loss_words (string_bytes h.place) (losses_at h.counts)

-- True if no copy of a frame was delivered, refused, dropped or astray: the last hop of the frame forwarded it to no port.
abbrev pub is_nowhere : CopyCounts → Bool
is_nowhere t = nat_eq t.delivered 0 && (nat_eq t.refused 0 && nat_le t.sent_on t.taken)

-- The causes of losses at all hops, the astray copies, and the frames that were forwarded to no port.
unfoldable pub why_words : {A : Type 0} → List CopyCounts → List (HopLosses A) → List ℕ
why_words tallies hops = flat_map hop_words hops ++ (reason_words [] (codes "astray") (sum_by astray tallies) ++ reason_words [] (codes "nowhere") (count_by is_nowhere tallies))

-- The `lost:` line of `net --strict` for a stream that lost frames: numbers and causes.
unfoldable pub lost_words : {A : Type 0} → List ℕ → List CopyCounts → List (HopLosses A) → List ℕ
lost_words stream tallies hops = codes "lost: stream " ++ (stream ++ (codes ", " ++ (decimal (length tallies - delivered_frames tallies) ++ (codes " of "
    ++ (decimal (length tallies) ++ (codes " frames" ++ (why_words tallies hops ++ codes "\n")))))))

-- The `lost:` line of a stream, if the stream lost a frame; otherwise the empty text.
abbrev pub lost_line : {A : Type 0} → List ℕ → List CopyCounts → List (HopLosses A) → List ℕ
lost_line stream tallies hops = if nat_eq (delivered_frames tallies) (length tallies) then [] else lost_words stream tallies hops

-- The number of delays above a deadline: copies that missed it.
abbrev pub late_in : ℕ → List ℕ → ℕ
late_in deadline delays = count_by (λ d. nat_lt deadline d) delays

-- The `late:` line of a stream whose deadline a copy missed. `delays` has the delays in ns of the stream's delivered
-- copies.
unfoldable pub late_words : List ℕ → List ℕ → ℕ → List ℕ
late_words stream delays deadline = codes "late: stream " ++ (stream ++ (codes ", " ++ (decimal (late_in deadline delays) ++ (codes " of "
    ++ (decimal (length delays) ++ (codes " delivered copies, worst delay " ++ (decimal (greatest_of delays) ++ (codes " ns, deadline "
    ++ (decimal deadline ++ codes " ns\n")))))))))

-- The `late:` line of a stream, if the stream has a deadline and one of `delays` exceeds the deadline; otherwise the
-- empty text. `delays` has the delays of the delivered copies.
abbrev pub late_line : List ℕ → List ℕ → Option ℕ → List ℕ
late_line stream delays None = []
late_line stream delays (Some deadline) = if nat_eq (late_in deadline delays) 0 then [] else late_words stream delays deadline

-- The `lost:` line of a stream, then its `late:` line by `delays`. A line is empty if the stream lost nothing or missed
-- no deadline.
unfoldable pub fault_lines : {A : Type 0} → List ℕ → List CopyCounts → List (HopLosses A) → List ℕ → Option ℕ → List ℕ
fault_lines stream tallies hops delays deadline = lost_line stream tallies hops ++ late_line stream delays deadline
