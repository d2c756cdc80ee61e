-- The lines of `run --strict`: one for each protected filter with a refused frame or a dropped copy.
use Rattle.std.specs.Prelude.{ℕ, Bool, true, false, ◌+◌, nat_eq, ◌&&◌, not, List, [], ◌++◌, length, count_by, flat_map, codes, decimal, if◌then◌else◌}
use Rattle.bridge_filter.specs.declared.Verdict.{Verdict}
use Rattle.bridge_filter.specs.declared.Verdict.TheVariants as verdict
use Rattle.bridge_semantics.specs.declared.outcome.Dropped.{Dropped}
use Rattle.bridge_semantics.specs.declared.outcome.View.{View}
use Rattle.bridge_report.specs.declared.losses.Losses.{Losses}
use Rattle.bridge_report.specs.declared.losses.Reason.{Reason}
use Rattle.bridge_report.specs.declared.losses.Reason.TheVariants as reason
use Rattle.bridge_report.specs.Section.{count_full, count_never_fits}

-- True if this verdict refuses a frame for the given reason.
abbrev pub is_for : Reason → Verdict → Bool
is_for reason.Blocked verdict.Blocked = true
is_for reason.Oversize verdict.Oversize = true
is_for reason.GateClosed verdict.GateClosed = true
is_for reason.ShutByRx verdict.ShutByRx = true
is_for reason.ShutByOctets verdict.ShutByOctets = true
is_for reason.OctetsExceeded verdict.OctetsExceeded = true
is_for reason.Red verdict.Red = true
is_for reason.YellowDropped verdict.YellowDropped = true
is_for r v = false

-- The number of frames that were refused for reason `r`.
abbrev pub refused_for : Reason → List Verdict → ℕ
refused_for r verdicts = count_by (is_for r) verdicts

-- The numbers of a filter's refused frames and dropped copies, by reason.
abbrev pub losses_of : List Verdict → List Dropped → Losses
losses_of verdicts drops = record {
  blocked = refused_for reason.Blocked verdicts;
  oversize = refused_for reason.Oversize verdicts;
  gate_closed = refused_for reason.GateClosed verdicts;
  shut_rx = refused_for reason.ShutByRx verdicts;
  shut_octets = refused_for reason.ShutByOctets verdicts;
  octets_exceeded = refused_for reason.OctetsExceeded verdicts;
  red = refused_for reason.Red verdicts;
  yellow_dropped = refused_for reason.YellowDropped verdicts;
  full = count_full drops;
  never = count_never_fits drops;
}

-- The number of refused frames and dropped copies, for all reasons together.
abbrev pub total : Losses → ℕ
total l = l.blocked + l.oversize + l.gate_closed + (l.shut_rx + l.shut_octets) + (l.octets_exceeded + l.red) + (l.yellow_dropped + l.full + l.never)

-- A comma, the text `place`, the reason and its number, as text. `place` is the hop at which frames were lost; it is
-- empty for one bridge.
abbrev pub counted_words : List ℕ → List ℕ → ℕ → List ℕ
counted_words place word count = codes ", " ++ (place ++ (word ++ (codes " " ++ decimal count)))

-- A comma, `place`, a reason and its number, as text. The text is empty if the number is 0.
abbrev pub reason_words : List ℕ → List ℕ → ℕ → List ℕ
reason_words place word count = if nat_eq count 0 then [] else counted_words place word count

-- The reasons of all losses and their numbers, in the order of the columns of `run --delays`.
unfoldable pub loss_words : List ℕ → Losses → List ℕ
loss_words place l = reason_words place (codes "blocked") l.blocked ++ (reason_words place (codes "oversize") l.oversize
    ++ (reason_words place (codes "gate-closed") l.gate_closed ++ (reason_words place (codes "shut-rx") l.shut_rx
    ++ (reason_words place (codes "shut-octets") l.shut_octets ++ (reason_words place (codes "octets-exceeded") l.octets_exceeded
    ++ (reason_words place (codes "red") l.red ++ (reason_words place (codes "yellow-dropped") l.yellow_dropped
    ++ (reason_words place (codes "full") l.full ++ reason_words place (codes "never") l.never))))))))

-- The `lost:` line of a filter: its number, the number of its losses, the number of its frames, and each reason with
-- its number.
unfoldable pub lost_line : ℕ → ℕ → Losses → List ℕ
lost_line filter frames l = codes "lost: filter " ++ (decimal filter ++ (codes ", " ++ (decimal (total l) ++ (codes " frames or copies of "
    ++ (decimal frames ++ (codes " frames" ++ (loss_words [] l ++ codes "\n")))))))

-- The `lost:` line of a filter if it is protected and lost a frame or a copy; otherwise the empty text.
abbrev pub line_if : Bool → ℕ → ℕ → Losses → List ℕ
line_if protected filter frames l = if protected && not (nat_eq (total l) 0) then lost_line filter frames l else []

-- The `lost:` line of filter `filter` with record `view`; empty if the filter is unprotected or lost nothing.
abbrev pub lost_lines_of : {A : Type 0} → ℕ → View A → List ℕ
lost_lines_of filter view = line_if view.protected filter (length view.verdicts.items) (losses_of view.verdicts.items view.drops.items)

-- The `lost:` lines of all protected filters that lost a frame or a copy, in list order.
abbrev pub lost_lines : {A : Type 0} → List (ℕ × View A) → List ℕ
lost_lines filters = flat_map (λ f. lost_lines_of f.0 f.1) filters
