-- Rows of a traffic file, as they are read key by key.
use Rattle.std.specs.Prelude.{◌≡◌, ℕ, ◌-◌, ◌^◌, ◌≤◌, Bool, true, List, [], ◌∷◌, All, Result, Ok, nat_eq, nat_lt, if◌then◌else◌}
use Rattle.std.specs.List.{list_any}
use Rattle.std.specs.Option.{ForSome}
use Rattle.toml.specs.Data.{Members}
use Rattle.bridge_limits.specs.declared.TheConstants.{END_OF_TIME, LONGEST_FRAME}
use Rattle.bridge_limits.specs.Members.{has_no_duplicate}
use Rattle.bridge_schema.specs.Readers.{◌>>=◌, number_in_range}
use Rattle.net_file.specs.declared.fault.NetSection.TheVariants as section
use Rattle.net_file.specs.declared.fault.NetField.{NetField}
use Rattle.net_file.specs.declared.fault.NetField.TheVariants as field
use Rattle.net_file.specs.declared.fault.NetKeyLocation.{NetKeyLocation}
use Rattle.net_file.specs.declared.fault.NetFault.{NetFault}
use Rattle.net_file.specs.declared.fault.NetFault.TheVariants as fault
use Rattle.net_file.specs.Keys.{has_only_keys, read_optional, provided, read_required}
use Rattle.net_file.specs.Sections.{no_duplicate}
use Rattle.bridge_bounds.specs.Traffic.{IsTraffic}
use Rattle.net_file.specs.declared.traffic_row.TrafficRow.{TrafficRow}
use Rattle.net_file.specs.declared.traffic_row.TalkerRow.{TalkerRow}
use Rattle.net_file.specs.declared.traffic_row.TalkerRow.TheVariants as row
use Rattle.net_file.specs.LimitedRows.{IsLimitedRow, is_limited, read_limited_row}

-- Keys that the table of a periodic row may have.
abbrev pub row_keys : List NetField
row_keys = field.Filter ∷ field.Period ∷ field.From ∷ field.To ∷ field.Least ∷ field.Longest ∷ field.Deadline ∷ []

-- Reads periodic row `index`, or gives the row's first fault. If the first phase isn't less than the period, the fault
-- names the period.
unfoldable pub read_row : ℕ → Members → Result TrafficRow NetFault
read_row index members =
    let at : NetField → NetKeyLocation = λ key. record { section = section.Traffic; index = index; field = key } in do
      keys ← provided (has_only_keys row_keys members) (fault.UnknownKey section.Traffic index)
      filter ← read_required (at field.Filter) (number_in_range 0 (2 ^ 32 - 1)) members
      period ← read_required (at field.Period) (number_in_range 1 END_OF_TIME) members
      from ← read_required (at field.From) (number_in_range 0 (END_OF_TIME - 1)) members
      within ← provided (nat_lt from period) (fault.OutOfRange (at field.Period))
      to ← read_required (at field.To) (number_in_range from (period - 1)) members
      least ← read_required (at field.Least) (number_in_range 1 LONGEST_FRAME) members
      longest ← read_required (at field.Longest) (number_in_range least LONGEST_FRAME) members
      deadline ← read_optional (at field.Deadline) (number_in_range 0 END_OF_TIME) members
      Ok (record {
        filter = filter;
        traffic = record { period = period; from = from; to = to; least = least; longest = longest };
        deadline = deadline;
      })

-- The number of the filter whose talker a traffic row describes.
abbrev pub row_filter : TalkerRow → ℕ
row_filter (row.Periodic r) = r.filter
row_filter (row.Limited r) = r.filter

-- Reads row `index`: a limited row if the table has one of the limit's keys, otherwise a periodic row.
abbrev pub read_talker_row : ℕ → Members → Result TalkerRow NetFault
read_talker_row index members =
    if is_limited members then (read_limited_row index members >>= λ r. Ok (row.Limited r))
    else (read_row index members >>= λ r. Ok (row.Periodic r))

-- True if one of the traffic rows is for filter `filter`. A second row of a filter is the fault `Duplicate`.
abbrev pub has_filter : List TalkerRow → ℕ → Bool
has_filter rows filter = list_any (λ r. nat_eq (row_filter r) filter) rows

-- Reads row `index`, or gives its first fault. No earlier row may have its filter.
abbrev pub read_row_in_list : List TalkerRow → ℕ → Members → Result TalkerRow NetFault
read_row_in_list earlier index members = do
  row ← read_talker_row index members
  own ← no_duplicate (has_filter earlier (row_filter row)) (fault.Duplicate section.Traffic index)
  Ok row

-- Holds if a row has valid traffic and a deadline, if any, of at most END_OF_TIME.
pub record IsRow (r : TrafficRow) : Type 0 where
  pub traffic : IsTraffic r.traffic
  pub deadline : ForSome r.deadline (λ d. d ≤ END_OF_TIME)

-- Holds if a row obeys the rules of its kind: periodic traffic, or a limit of frames.
abbrev pub IsTalkerRow : TalkerRow → Type 0
IsTalkerRow (row.Periodic r) = IsRow r
IsTalkerRow (row.Limited r) = IsLimitedRow r

-- Holds if the rows obey the rules and have different filters.
pub record AreRows (rows : List TalkerRow) : Type 0 where
  pub each : All IsTalkerRow rows
  pub own : has_no_duplicate (λ r s. nat_eq (row_filter r) (row_filter s)) rows ≡ true
