-- Rows of traffic with a limit of their frames, key by key.
use Rattle.std.specs.Prelude.{ℕ, ◌-◌, ◌^◌, ◌≤◌, Bool, List, [], ◌∷◌, min, Result, Ok, if◌then◌else◌}
use Rattle.std.specs.Option.{ForSome}
use Rattle.toml.specs.Data.{Members}
use Rattle.bridge_limits.specs.declared.TheConstants.{END_OF_TIME, LONGEST_FRAME}
use Rattle.bridge_schema.specs.Readers.{◌>>=◌, number_in_range}
use Rattle.net_file.specs.declared.fault.NetSection.TheVariants as section
use Rattle.net_file.specs.declared.fault.NetField.{NetField}
use Rattle.net_file.specs.declared.fault.NetField.TheVariants as field
use Rattle.net_file.specs.declared.fault.NetKeyLocation.{NetKeyLocation}
use Rattle.net_file.specs.declared.fault.NetFault.{NetFault}
use Rattle.net_file.specs.declared.fault.NetFault.TheVariants as fault
use Rattle.net_file.specs.Keys.{has_only_keys, read_optional, provided, read_required}
use Rattle.net_file.specs.Sections.{has_any_key}
use Rattle.net_file.specs.declared.limited_row.FrameLimit.{FrameLimit}
use Rattle.net_file.specs.declared.limited_row.FrameLimit.TheVariants as limit
use Rattle.net_file.specs.declared.limited_row.LimitedRow.{LimitedRow}

-- Keys that give a row a burst and a rate.
abbrev pub rate_keys : List NetField
rate_keys = field.Burst ∷ field.Rate ∷ []

-- Keys that limit a row's frames. A row with none of them has periodic traffic.
abbrev pub limit_keys : List NetField
limit_keys = field.Burst ∷ field.Rate ∷ field.Frames ∷ []

-- Keys that the table of a row with a burst and a rate may have.
abbrev pub rate_row_keys : List NetField
rate_row_keys = field.Filter ∷ field.Burst ∷ field.Rate ∷ field.Least ∷ field.Longest ∷ field.Deadline ∷ []

-- Keys that the table of a row with a number of frames in any period may have.
abbrev pub count_row_keys : List NetField
count_row_keys = field.Filter ∷ field.Frames ∷ field.Period ∷ field.Least ∷ field.Longest ∷ field.Deadline ∷ []

-- True if a row's table has a key that limits the frames.
abbrev pub is_limited : Members → Bool
is_limited members = has_any_key limit_keys members

-- True if the table of a row with a limit has only keys that suit the limit.
abbrev pub has_limited_keys : Members → Bool
has_limited_keys members = if has_any_key rate_keys members then has_only_keys rate_row_keys members else has_only_keys count_row_keys members

-- The location of a key of traffic row `index`.
abbrev pub row_key : ℕ → NetField → NetKeyLocation
row_key index key = record { section = section.Traffic; index = index; field = key }

-- Reads burst and rate of row `index`. The burst is at least one shortest frame, 64 metered octets; the rate is at most 100 Gbit/s.
unfoldable pub read_rate : ℕ → Members → Result FrameLimit NetFault
read_rate index members = do
  burst ← read_required (row_key index field.Burst) (number_in_range 64 (2 ^ 32 - 1)) members
  rate ← read_required (row_key index field.Rate) (number_in_range 0 (10 ^ 11)) members
  Ok (limit.Rate burst rate)

-- Reads the limit of row `index`: the largest number of frames in any period, 1 to 1,024, and the period in ns.
unfoldable pub read_count : ℕ → Members → Result FrameLimit NetFault
read_count index members = do
  frames ← read_required (row_key index field.Frames) (number_in_range 1 1024) members
  period ← read_required (row_key index field.Period) (number_in_range 1 END_OF_TIME) members
  Ok (limit.Count frames period)

-- Reads the limit of row `index`: burst and rate if the table has one of these keys, otherwise a number of frames in any period.
abbrev pub read_limit : ℕ → Members → Result FrameLimit NetFault
read_limit index members = if has_any_key rate_keys members then read_rate index members else read_count index members

-- The captured length in octets of the longest frame that keeps a limit. A burst has room for the frame and the 4 octets of its
-- frame check sequence.
abbrev pub limit_longest : FrameLimit → ℕ
limit_longest (limit.Rate burst rate) = min LONGEST_FRAME (burst - 4)
limit_longest (limit.Count frames period) = LONGEST_FRAME

-- Reads limited row `index` from its table, or gives the row's first fault.
unfoldable pub read_limited_row : ℕ → Members → Result LimitedRow NetFault
read_limited_row index members = do
  keys ← provided (has_limited_keys members) (fault.UnknownKey section.Traffic index)
  filter ← read_required (row_key index field.Filter) (number_in_range 0 (2 ^ 32 - 1)) members
  limit ← read_limit index members
  least ← read_required (row_key index field.Least) (number_in_range 1 LONGEST_FRAME) members
  longest ← read_required (row_key index field.Longest) (number_in_range least (limit_longest limit)) members
  deadline ← read_optional (row_key index field.Deadline) (number_in_range 0 END_OF_TIME) members
  Ok (record { filter = filter; limit = limit; least = least; longest = longest; deadline = deadline })

-- Holds if burst, in metered octets, and rate, in bit/s, are in their ranges. A burst has at least the 64 octets of the shortest frame.
pub record IsRateLimit (burst rate : ℕ) : Type 0 where
  pub some : 64 ≤ burst
  pub few : burst ≤ 2 ^ 32 - 1
  pub slow : rate ≤ 10 ^ 11

-- Holds if the number of frames is 1 to 1,024, and the period is 1 ns to `END_OF_TIME`.
pub record IsCountLimit (frames period : ℕ) : Type 0 where
  pub some : 1 ≤ frames
  pub few : frames ≤ 1024
  pub some_time : 1 ≤ period
  pub within : period ≤ END_OF_TIME

-- Holds if the limit's two numbers are within their ranges.
abbrev pub IsFrameLimit : FrameLimit → Type 0
IsFrameLimit (limit.Rate burst rate) = IsRateLimit burst rate
IsFrameLimit (limit.Count frames period) = IsCountLimit frames period

-- Holds if a row has a valid limit and valid lengths. A frame of the greatest length keeps the limit. A deadline is at most END_OF_TIME.
pub record IsLimitedRow (r : LimitedRow) : Type 0 where
  pub limit : IsFrameLimit r.limit
  pub some : 1 ≤ r.least
  pub lengths : r.least ≤ r.longest
  pub longest : r.longest ≤ limit_longest r.limit
  pub deadline : ForSome r.deadline (λ d. d ≤ END_OF_TIME)
