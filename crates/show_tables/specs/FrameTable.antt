-- The table of frames: a row for each copy of each filter's frames. Each row ends with a line feed.
use Rattle.std.specs.Prelude.{ℕ, ◌+◌, ◌-◌, nat_eq, List, [], ◌∷◌, ◌++◌, filter, flat_map, codes, decimal, if◌then◌else◌}
use Rattle.std.specs.List.{range_with_len}
use Rattle.bridge_filter.specs.declared.Verdict.{Verdict}
use Rattle.bridge_semantics.specs.declared.outcome.Departure.{Departure}
use Rattle.bridge_semantics.specs.declared.outcome.Dropped.{Dropped}
use Rattle.bridge_semantics.specs.declared.outcome.Origin.{Origin}
use Rattle.bridge_semantics.specs.declared.outcome.View.{View}
use Rattle.bridge_report.specs.Words.{refusal_word, verdict_word}
use Rattle.show_tables.specs.declared.frame_rows.FilterFrame.{FilterFrame}

-- A field of the table: the number `n` in decimal and a comma.
abbrev pub field : ℕ → List ℕ
field n = decimal n ++ codes ","

-- The header line of the table that `run --frames` writes.
abbrev pub frames_header : List ℕ
frames_header = codes "filter,frame,ingress,arrival,verdict,port,start,done,delay,refusal\n"

-- The start of each row of a frame: filter, frame number, ingress port, arrival time and verdict.
unfoldable pub row_start : FilterFrame → List ℕ
row_start f = field f.filter ++ (field f.own ++ (field f.origin.port ++ (field f.origin.at ++ (verdict_word f.verdict ++ codes ","))))

-- The row of a copy that left: egress port, start, end, and delay since the frame's arrival.
unfoldable pub departure_row : FilterFrame → Departure → List ℕ
departure_row f d = row_start f ++ (field d.port ++ (field d.start ++ (field d.done ++ (field (d.done - f.origin.at) ++ codes "\n"))))

-- The row of a dropped copy: egress port and reason.
unfoldable pub drop_row : FilterFrame → Dropped → List ℕ
drop_row f d = row_start f ++ (field d.port ++ (codes ",,," ++ (refusal_word d.refusal ++ codes "\n")))

-- The row of a frame without copies: the fields of a copy are empty.
unfoldable pub lone_row : FilterFrame → List ℕ
lone_row f = row_start f ++ codes ",,,,\n"

-- The row of departure `d`, if it left by `port`; otherwise the empty text.
abbrev pub port_departure_row : FilterFrame → ℕ → Departure → List ℕ
port_departure_row f port d = if nat_eq d.port port then departure_row f d else []

-- The row of dropped copy `d`, if `port` dropped it; otherwise the empty text.
abbrev pub port_drop_row : FilterFrame → ℕ → Dropped → List ℕ
port_drop_row f port d = if nat_eq d.port port then drop_row f d else []

-- The rows of a frame's copies that left by port `port`.
abbrev pub departure_rows : FilterFrame → ℕ → List Departure → List ℕ
departure_rows f port departures = flat_map (port_departure_row f port) departures

-- The rows of a frame's copies that port `port` dropped.
abbrev pub drop_rows : FilterFrame → ℕ → List Dropped → List ℕ
drop_rows f port drops = flat_map (port_drop_row f port) drops

-- The rows of the copies that left by `port`, then of the copies that it dropped.
abbrev pub port_copy_rows : FilterFrame → List Departure → List Dropped → ℕ → List ℕ
port_copy_rows f departures drops port = departure_rows f port departures ++ drop_rows f port drops

-- The rows of a frame's copies by rising port, 1 to 16.
abbrev pub copy_rows : FilterFrame → List Departure → List Dropped → List ℕ
copy_rows f departures drops = flat_map (port_copy_rows f departures drops) (range_with_len 1 16)

-- The given rows; if they are empty, the row of a frame without copies.
abbrev pub rows_or_lone : FilterFrame → List ℕ → List ℕ
rows_or_lone f [] = lone_row f
rows_or_lone f (octet ∷ more) = octet ∷ more

-- The rows of a frame, from the frame's own departures and dropped copies.
abbrev pub copies_or_lone_row : FilterFrame → List Departure → List Dropped → List ℕ
copies_or_lone_row f departures drops = rows_or_lone f (copy_rows f departures drops)

-- The departures of the frame with number `own`, from the departures of its filter's frames.
abbrev pub frame_departures : ℕ → List Departure → List Departure
frame_departures own departures = filter (λ d. nat_eq d.own own) departures

-- The dropped copies of the frame with number `own`, from the dropped copies of its filter's frames.
abbrev pub frame_drops : ℕ → List Dropped → List Dropped
frame_drops own drops = filter (λ d. nat_eq d.own own) drops

-- The rows of a frame, from the departures and dropped copies of all frames of its filter.
abbrev pub frame_rows : FilterFrame → List Departure → List Dropped → List ℕ
frame_rows f departures drops = copies_or_lone_row f (frame_departures f.own departures) (frame_drops f.own drops)

-- Builds frame `own` of filter `filter` from its origin and its verdict.
abbrev pub make_frame : ℕ → ℕ → Origin → Verdict → FilterFrame
make_frame filter own origin verdict = record { filter = filter; own = own; origin = origin; verdict = verdict }

-- The rows of the frames of `filter`, numbered from `own`, by their origins and verdicts.
abbrev pub frames_rows : ℕ → List Departure → List Dropped → ℕ → List Origin → List Verdict → List ℕ
frames_rows filter departures drops own [] verdicts = []
frames_rows filter departures drops own (o ∷ os) [] = []
frames_rows filter departures drops own (o ∷ os) (v ∷ vs) = frame_rows (make_frame filter own o v) departures drops ++ frames_rows filter departures drops (own + 1) os vs

-- The rows of the table of frames for all frames of a filter, from its record.
abbrev pub filter_rows : {A : Type 0} → ℕ → View A → List ℕ
filter_rows filter view = frames_rows filter view.departures.items view.drops.items 1 view.origins.items view.verdicts.items

-- The table: the header line, and the rows of all filters in list order.
abbrev pub frame_table : {A : Type 0} → List (ℕ × View A) → List ℕ
frame_table filters = frames_header ++ flat_map (λ f. filter_rows f.0 f.1) filters
