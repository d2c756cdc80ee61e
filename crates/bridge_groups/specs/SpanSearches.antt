-- Searches of the spans that begin at one time, for the greatest delay. A span begins when a frame enters the empty queue, and ends when
-- the frame in question arrives.
use Rattle.std.specs.Prelude.{ℕ, Bool, ◌+◌, ◌<◌, ◌≤◌}
use Rattle.bridge_cycle.specs.Fits.{IsFirstFit}
use Rattle.bridge_groups.specs.Work.{IsNthFit, IsSpanBound}
use Rattle.bridge_groups.specs.declared.span_search.SpanLimits.{SpanLimits}
use Rattle.bridge_groups.specs.declared.span_search.SpanSearch.{SpanSearch}

-- Holds if `b` ns bounds the delay of each span that begins at `start` and lasts at least `shortest` and less than `end` ns. `work` is the
-- work in ns of the frame in question.
abbrev pub AreSpansBounded : (ℕ → Bool) → ℕ → ℕ → (ℕ → ℕ) → ℕ → ℕ → ℕ → ℕ → Type 0
AreSpansBounded opens occ work curve start shortest end b = (w : ℕ) → shortest ≤ w → w < end → IsSpanBound opens occ work curve b start w

-- Holds if `b` ns bounds the delay of each span that lasts at least `shortest` ns, whenever it begins. `work` is the work in ns of the
-- frame in question.
abbrev pub AreAllSpansBounded : (ℕ → Bool) → ℕ → ℕ → (ℕ → ℕ) → ℕ → ℕ → Type 0
AreAllSpansBounded opens occ work curve shortest b = (u w : ℕ) → shortest ≤ w → IsSpanBound opens occ work curve b u w

-- Holds if the search covers all spans shorter than its span, and its rank counts the fits from the start of the spans.
pub record IsSearched (opens : ℕ → Bool) (occ : ℕ) (curve : ℕ → ℕ) (limits : SpanLimits) (search : SpanSearch) : Type 0 where
  pub ranked : (v : ℕ) → IsFirstFit opens occ search.from v → IsNthFit opens occ search.rank limits.start (v + limits.shift)
  pub covered : AreSpansBounded opens occ limits.work curve limits.start limits.shortest search.span search.bound
  pub begun : limits.start ≤ search.from
  pub longer : limits.shortest ≤ search.span
  pub within : search.span ≤ limits.end
  pub few : search.rank + limits.start ≤ search.from + 4_000_000_000
  pub reached : search.span < limits.end → search.rank + limits.work ≤ curve search.span
  pub most : search.span < limits.end → curve search.span ≤ limits.work + search.rank + 4_000_000_000
