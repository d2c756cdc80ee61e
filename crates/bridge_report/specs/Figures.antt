-- Arrival times of frames, and the least and greatest delay of a list.
use Rattle.std.specs.Prelude.{ℕ, ◌-◌, ◌^◌, max, min, nat_eq, Option, None, Some, List, fold, slice_get, if◌then◌else◌}
use Rattle.bridge_semantics.specs.declared.outcome.Origin.{Origin}

-- The arrival time in ns of an optional frame; 0 if it is missing.
abbrev pub at_if : Option Origin → ℕ
at_if None = 0
at_if (Some o) = o.at

-- The arrival time in ns of frame number `own`, counted from 1; 0 if no frame has this number.
abbrev pub at_of : List Origin → ℕ → ℕ
at_of origins own = if nat_eq own 0 then 0 else at_if (slice_get origins (own - 1))

-- The least of the delays; the greatest number of 64 bits if the list is empty.
abbrev pub least_of : List ℕ → ℕ
least_of delays = fold min (2 ^ 64 - 1) delays

-- The greatest of the delays; 0 if the list is empty.
abbrev pub greatest_of : List ℕ → ℕ
greatest_of delays = fold max 0 delays
