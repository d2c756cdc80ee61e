-- Bucket levels of a meter, as bounds over its judged frames.
use Rattle.std.specs.Prelude.{ℕ, Bool, ◌+◌, ◌-◌, ◌*◌, min, List, [], ◌∷◌, if◌then◌else◌}

-- Rates of the committed and the excess bucket in units per ns, sizes of both buckets in units, and the coupling flag.
pub record Limits : Type 0 where
  pub cir : ℕ
  pub cbs : ℕ
  pub eir : ℕ
  pub ebs : ℕ
  pub coupling : Bool

-- Frame that the buckets judged: its arrival time in ns, and the units that it took from the committed (`green`) and
-- excess (`yellow`) bucket.
pub record JudgedFrame : Type 0 where
  pub at : ℕ
  pub green : ℕ
  pub yellow : ℕ

-- Smallest number among `a` and the numbers of the list; `a` if the list is empty.
abbrev pub least_bound : ℕ → List ℕ → ℕ
least_bound a [] = a
least_bound a (x ∷ xs) = min x (least_bound a xs)

-- Upper bounds of the committed bucket's level at time `now`, one for each judged frame. A bound assumes a full bucket
-- before its frame: size, plus refill, minus units that green frames took since then.
--
-- Green frames newer than the list took `green` units.
abbrev pub committed_bounds : Limits → ℕ → ℕ → List JudgedFrame → List ℕ
committed_bounds l now green [] = []
committed_bounds l now green (f ∷ fs) = (l.cbs + l.cir * (now - f.at) - (green + f.green)) ∷ committed_bounds l now (green + f.green) fs

-- Number of units in the committed bucket at time `now`: the smallest of the bucket size and the bounds from all judged
-- frames.
unfoldable pub committed : Limits → ℕ → List JudgedFrame → ℕ
committed l now past = least_bound l.cbs (committed_bounds l now 0 past)

-- Units that overflowed the committed bucket from `at` to `now`: level `then_held` at `at`, plus refill, minus taken
-- units `green`, minus level `held` at `now`.
abbrev pub overflow : Limits → ℕ → ℕ → ℕ → ℕ → ℕ → ℕ
overflow l at then_held green now held = then_held + l.cir * (now - at) - green - held

-- Number of the `o` overflow units that enter the excess bucket: all of them if the coupling flag is set, otherwise 0.
abbrev pub coupled_overflow : Limits → ℕ → ℕ
coupled_overflow l o = if l.coupling then o else 0

-- Upper bounds of the excess bucket's level at time `now`, one for each judged frame. A bound assumes a full bucket
-- before its frame: size, plus refill and coupled overflow, minus units taken since then.
--
-- The committed bucket has `held` units at `now`. Frames newer than the list took the units `green` and `yellow`.
abbrev pub excess_bounds : Limits → ℕ → ℕ → ℕ → ℕ → List JudgedFrame → List ℕ
excess_bounds l now held green yellow [] = []
excess_bounds l now held green yellow (f ∷ fs) =
    (l.ebs + l.eir * (now - f.at) + coupled_overflow l (overflow l f.at (committed l f.at fs) (green + f.green) now held) - (yellow + f.yellow)) ∷ excess_bounds l now held (green + f.green) (yellow + f.yellow) fs

-- Number of units in the excess bucket at time `now`: the smallest of the bucket size and the bounds from all judged
-- frames.
unfoldable pub excess : Limits → ℕ → List JudgedFrame → ℕ
excess l now past = least_bound l.ebs (excess_bounds l now (committed l now past) 0 0 past)
