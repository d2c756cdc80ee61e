-- Ends of intervals, by which a list finds entries fast. No public contract uses these definitions.
use Rattle.std.specs.Prelude.{◌≡◌, ℕ, ◌<◌, ◌≤◌, ◌+◌, ◌-◌, List, length, take, slice_index}
use Rattle.bridge_cycle.specs.Cyclic.{interval_sum}

-- Holds if for each entry, `ends` has the offset in the cycle at which its interval ends.
pub record AreIntervalEnds {S : Type 0} (entries : List (S × ℕ)) (ends : List ℕ) : Type 0 where
  pub as_many : length ends ≡ length entries
  pub sums : (k : ℕ) → k < length entries → slice_index ends k ≡ interval_sum (take (k + 1) entries)

-- Holds if `place` is the index of the entry in force at offset `phase`. The last entry lasts until the cycle ends.
pub record IsEntryIndex (ends : List ℕ) (phase place : ℕ) : Type 0 where
  pub within : place < length ends
  pub begun : 0 < place → slice_index ends (place - 1) ≤ phase
  pub goes_on : place + 1 < length ends → phase < slice_index ends place
