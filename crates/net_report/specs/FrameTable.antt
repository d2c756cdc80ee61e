-- Rows of the table of frames, each with its line feed.
use Rattle.std.specs.Prelude.{ℕ, ◌+◌, ◌-◌, Bool, true, false, Option, Some, None, List, [], ◌∷◌, ◌++◌, flat_map, codes, decimal, if◌then◌else◌}
use Rattle.bridge_filter.specs.declared.Verdict.{Verdict}
use Rattle.bridge_semantics.specs.declared.outcome.Departure.{Departure}
use Rattle.bridge_semantics.specs.declared.outcome.Dropped.{Dropped}
use Rattle.bridge_semantics.specs.declared.outcome.Origin.{Origin}
use Rattle.bridge_report.specs.Figures.{at_of}
use Rattle.bridge_report.specs.Words.{verdict_word, refusal_word}
use Rattle.bridge_semantics.specs.declared.outcome.View.{View}
use Rattle.net_report.specs.declared.sources.SourceFrame.{SourceFrame}
use Rattle.net_report.specs.Hops.{is_onward}
use Rattle.net_report.specs.HopCounts.{is_pass}
use Rattle.net_report.specs.SourceFrames.{source_frame}

-- The number of the source frame and its arrival time at the first hop in ns, or two empty fields if the source is
-- unknown.
abbrev pub source_frame_words : Option SourceFrame → List ℕ
source_frame_words None = codes ",,"
source_frame_words (Some r) = decimal r.number ++ (codes "," ++ (decimal r.came ++ codes ","))

-- The beginning of a row: stream, hop, source frame and arrival time at this hop.
unfoldable pub line_start : List ℕ → List ℕ → Option SourceFrame → ℕ → List ℕ
line_start stream hop root at = stream ++ (codes "," ++ (hop ++ (codes "," ++ (source_frame_words root ++ (decimal at ++ codes ",")))))

-- The row of a frame that arrived at time `at` at `hop` of `stream` and was refused, with the verdict as its fate.
unfoldable pub refused_line : List ℕ → List ℕ → Option SourceFrame → ℕ → Verdict → List ℕ
refused_line stream hop root at v = line_start stream hop root at ++ (verdict_word v ++ codes ",,,,\n")

-- The row of a dropped copy of a frame that arrived at time `at` at `hop` of `stream`. Its fate is the reason of the drop.
unfoldable pub drop_line : List ℕ → List ℕ → Option SourceFrame → ℕ → Dropped → List ℕ
drop_line stream hop root at d = line_start stream hop root at ++ (refusal_word d.refusal ++ (codes "," ++ (decimal d.port ++ codes ",,,\n")))

-- The word for a copy that left: `sent` if its port leads to a hop (`true`), otherwise `delivered`.
abbrev pub departure_word : Bool → List ℕ
departure_word true = codes "sent"
departure_word false = codes "delivered"

-- The delay in ns of a copy, from the frame's arrival at the first hop to the end of transmission `done`. Empty if the
-- frame's source is unknown.
abbrev pub delay_word : ℕ → Option SourceFrame → List ℕ
delay_word done None = []
delay_word done (Some r) = decimal (done - r.came)

-- The row of a copy that left `hop` of `stream`: `sent` if its port leads to a hop (`on`), otherwise `delivered`. Its frame arrived at time
-- `at`.
unfoldable pub departure_line : List ℕ → List ℕ → Option SourceFrame → ℕ → Departure → Bool → List ℕ
departure_line stream hop root at d on = line_start stream hop root at ++ (departure_word on ++ (codes "," ++ (decimal d.port ++ (codes ","
    ++ (decimal d.start ++ (codes "," ++ (decimal d.done ++ (codes "," ++ (delay_word d.done root ++ codes "\n")))))))))

-- THE LINES OF A HOP

-- The row of a frame that arrived at time `at` at `hop` of `stream` and was refused; empty if it passed.
abbrev pub verdict_line : List ℕ → List ℕ → Option SourceFrame → ℕ → Verdict → List ℕ
verdict_line stream hop root at v = if is_pass v then [] else refused_line stream hop root at v

-- The rows of the frames that a hop of `stream` refused. The first verdict belongs to the frame with number `n`.
abbrev pub verdict_lines : List ℕ → List ℕ → List (Option SourceFrame) → List Origin → ℕ → List Verdict → List ℕ
verdict_lines stream hop roots origins n [] = []
verdict_lines stream hop roots origins n (v ∷ vs) = verdict_line stream hop (source_frame roots n) (at_of origins n) v ++ verdict_lines stream hop roots origins (n + 1) vs

-- The rows of the copies that a hop of `stream` dropped.
abbrev pub drop_lines : List ℕ → List ℕ → List (Option SourceFrame) → List Origin → List Dropped → List ℕ
drop_lines stream hop roots origins ds = flat_map (λ (d : Dropped). drop_line stream hop (source_frame roots d.own) (at_of origins d.own) d) ds

-- The rows of the copies that left a hop of `stream`. `ways` has whether each port leads to a hop.
abbrev pub departure_lines : List ℕ → List ℕ → List (Option SourceFrame) → List Origin → List Bool → List Departure → List ℕ
departure_lines stream hop roots origins ways ds = flat_map (λ (d : Departure). departure_line stream hop (source_frame roots d.own) (at_of origins d.own) d (is_onward ways d.port)) ds

-- The rows of a record of a hop of `stream`: refused frames, dropped copies, then copies that left (by `ways`). Each follows the order of
-- the run.
abbrev pub view_lines : {A : Type 0} → List ℕ → List ℕ → List (Option SourceFrame) → List Bool → View A → List ℕ
view_lines stream hop roots ways v =
    verdict_lines stream hop roots v.origins.items 1 v.verdicts.items
    ++ (drop_lines stream hop roots v.origins.items v.drops.items ++ departure_lines stream hop roots v.origins.items ways v.departures.items)
