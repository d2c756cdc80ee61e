-- The table of delays: a row for each filter and each port by which its frames left. Each row ends with a line feed.
use Rattle.std.specs.Prelude.{◌≡◌, ℕ, ◌-◌, ◌/◌, nat_eq, Option, None, Some, List, [], ◌∷◌, ◌++◌, flat_map, length, sum, codes, if◌then◌else◌}
use Rattle.std.specs.List.{range_with_len}
use Rattle.bridge_config.specs.Model.{Plan}
use Rattle.bridge_semantics.specs.declared.outcome.Departure.{Departure}
use Rattle.bridge_semantics.specs.declared.outcome.Origin.{Origin}
use Rattle.bridge_semantics.specs.declared.outcome.View.{View}
use Rattle.bridge_report.specs.Figures.{at_of, greatest_of, least_of}
use Rattle.bridge_report.specs.Section.{count_full, count_never_fits}
use Rattle.show_tables.specs.FrameTable.{field}
use Rattle.show_tables.specs.Losses.{count_full_on_port, loss_fields, count_never_on_port}
use Rattle.show_tables.specs.PortBounds.{bound_by_port}
use Rattle.show_tables.specs.GroupBounds.{AreFilterBounds}

-- The header line of the table that `run --delays` writes.
abbrev pub delays_header : List ℕ
delays_header = codes "filter,port,frames,least,mean,greatest,jitter,bound,blocked,oversize,gate-closed,shut-rx,shut-octets,octets-exceeded,red,yellow-dropped,full,never\n"

-- The delay in ns of departure `d` as a list of one number, if it left by `port`; otherwise the empty list.
abbrev pub copy_delay : List Origin → ℕ → Departure → List ℕ
copy_delay origins port d = if nat_eq d.port port then (d.done - at_of origins d.own) ∷ [] else []

-- The delays in ns of the copies that left by `port`, from arrival to end of transmission.
abbrev pub port_delays : List Origin → ℕ → List Departure → List ℕ
port_delays origins port departures = flat_map (copy_delay origins port) departures

-- The fields of the least, mean (rounded down) and greatest delay, and of the jitter; empty fields without delays.
abbrev pub figure_fields : List ℕ → List ℕ
figure_fields [] = codes ",,,,"
figure_fields (d ∷ ds) = field (least_of (d ∷ ds)) ++ (field (sum (d ∷ ds) / length (d ∷ ds)) ++ (field (greatest_of (d ∷ ds)) ++ field (greatest_of (d ∷ ds) - least_of (d ∷ ds))))

-- The field of a delay bound; an empty field without a bound.
abbrev pub bound_field : Option ℕ → List ℕ
bound_field None = codes ","
bound_field (Some b) = field b

-- The row of filter `filter` at port `port`, with the delays, bound and losses there.
unfoldable pub port_row : {A : Type 0} → ℕ → View A → ℕ → Option ℕ → List ℕ → List ℕ
port_row filter v port bound delays = field filter ++ (field port ++ (field (length delays) ++ (figure_fields delays ++ (bound_field bound
    ++ loss_fields v.verdicts.items (count_full_on_port port v.drops.items) (count_never_on_port port v.drops.items)))))

-- The row of a filter whose frames left by no port: an empty port, 0 frames, and its losses.
unfoldable pub unsent_row : {A : Type 0} → ℕ → View A → List ℕ
unsent_row filter v = field filter ++ (codes ",0,,,,,," ++ loss_fields v.verdicts.items (count_full v.drops.items) (count_never_fits v.drops.items))

-- The row of a filter at a port with delay bound `bound`, or the empty text without delays.
abbrev pub row_if_any : {A : Type 0} → ℕ → View A → ℕ → Option ℕ → List ℕ → List ℕ
row_if_any filter v port bound [] = []
row_if_any filter v port bound (d ∷ ds) = port_row filter v port bound (d ∷ ds)

-- The row of a filter at a port, if copies of its frames left there.
abbrev pub row_of_port : {A : Type 0} → ℕ → View A → List (Option ℕ) → ℕ → List ℕ
row_of_port filter v bounds port = row_if_any filter v port (bound_by_port bounds port) (port_delays v.origins.items port v.departures.items)

-- The rows of a filter by rising port, 1 to 16, for ports by which copies of its frames left.
abbrev pub port_rows : {A : Type 0} → ℕ → View A → List (Option ℕ) → List ℕ
port_rows filter v bounds = flat_map (row_of_port filter v bounds) (range_with_len 1 16)

-- The given rows of a filter. If they are empty and the filter has frames, its row without departures.
abbrev pub rows_or_unsent : {A : Type 0} → ℕ → View A → List ℕ → List ℕ
rows_or_unsent filter v [] = if nat_eq (length v.verdicts.items) 0 then [] else unsent_row filter v
rows_or_unsent filter v (octet ∷ more) = octet ∷ more

-- Holds if `rows` has the rows of a filter, with the delay bounds of its ports.
abbrev pub AreFilterRows : {A B : Type 0} → Plan A → ℕ → View B → List ℕ → Type 0
AreFilterRows p filter v rows = (bounds : List (Option ℕ)) × AreFilterBounds p filter bounds × (rows ≡ rows_or_unsent filter v (port_rows filter v bounds))

-- Holds if `rows` has the rows of all filters in the list, in list order.
abbrev pub AreFiltersRows : {A B : Type 0} → Plan A → List (ℕ × View B) → List ℕ → Type 0
AreFiltersRows p [] rows = rows ≡ []
AreFiltersRows p (f ∷ fs) rows = (first rest : List ℕ) × AreFilterRows p f.0 f.1 first × AreFiltersRows p fs rest × (rows ≡ first ++ rest)

-- Holds if `table` is the header line followed by the rows of all filters in the list.
abbrev pub IsDelayTable : {A B : Type 0} → Plan A → List (ℕ × View B) → List ℕ → Type 0
IsDelayTable p filters table = (rows : List ℕ) × AreFiltersRows p filters rows × (table ≡ delays_header ++ rows)
