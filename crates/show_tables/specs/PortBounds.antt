-- The delay bound of a port: the greatest bound of its classes.
use Rattle.std.specs.Prelude.{◌≡◌, ℕ, ◌+◌, ◌-◌, max, nat_eq, Option, None, Some, MatchOption, List, fold, length, slice_get, if◌then◌else◌}
use Rattle.bridge_config.specs.Model.{Plan}
use Rattle.bridge_bounds.specs.Bounds.{HasNoBound}
use Rattle.bridge_groups.specs.GateBounds.{IsLeastBound}

-- The greater of two optional bounds; a missing bound counts as less.
abbrev pub greater_bound : Option ℕ → Option ℕ → Option ℕ
greater_bound None b = b
greater_bound (Some a) None = Some a
greater_bound (Some a) (Some b) = Some (max a b)

-- The greatest of the bounds that are present; `None` if there is none.
abbrev pub greatest_bound : List (Option ℕ) → Option ℕ
greatest_bound bounds = fold greater_bound None bounds

-- Holds if `b` is the least bound of filter `n` for class `c` at port `q`. `None` means that the filter has no delay
-- bound there.
abbrev pub IsClassBound : {A : Type 0} → Plan A → ℕ → ℕ → ℕ → Option ℕ → Type 0
IsClassBound p n q c b = MatchOption b (HasNoBound p n q c) (IsLeastBound p n q c)

-- Holds if the list has the least bound of filter `n` at port `q` for each class, from 0.
abbrev pub AreBoundsByClass : {A : Type 0} → Plan A → ℕ → ℕ → List (Option ℕ) → Type 0
AreBoundsByClass p n q bounds = (c : ℕ) (b : Option ℕ) → slice_get bounds c ≡ Some b → IsClassBound p n q c b

-- Holds if the list has the least bounds of filter `n` for the first `classes` classes of port `q`.
pub record AreClassBounds {A : Type 0} (p : Plan A) (n q classes : ℕ) (bounds : List (Option ℕ)) : Type 0 where
  pub many : length bounds ≡ classes
  pub each : AreBoundsByClass p n q bounds

-- Holds if `bound` is the greatest of the least bounds of filter `n` for the first `classes` classes of port `q`.
pub record IsGreatestBound {A : Type 0} (p : Plan A) (n q classes : ℕ) (bound : Option ℕ) : Type 0 where
  pub bounds : List (Option ℕ)
  pub are : AreClassBounds p n q classes bounds
  pub is : bound ≡ greatest_bound bounds

-- Holds if `bound` is the delay bound of filter `n` at port `q`: the greatest of its eight classes' least bounds. Each copy has left within
-- this time of its frame's arrival.
abbrev pub IsPortBound : {A : Type 0} → Plan A → ℕ → ℕ → Option ℕ → Type 0
IsPortBound p n q bound = IsGreatestBound p n q 8 bound

-- Holds if the list has the delay bound for filter `n` of each port, from 1.
abbrev pub AreBoundsByPort : {A : Type 0} → Plan A → ℕ → List (Option ℕ) → Type 0
AreBoundsByPort p n bounds = (i : ℕ) (b : Option ℕ) → slice_get bounds i ≡ Some b → IsPortBound p n (i + 1) b

-- Holds if the list has the delay bounds of ports 1 to 16 for filter `n`.
pub record ArePortBounds {A : Type 0} (p : Plan A) (n : ℕ) (bounds : List (Option ℕ)) : Type 0 where
  pub many : length bounds ≡ 16
  pub all : AreBoundsByPort p n bounds

-- The bound in a nested option; `None` if either level is missing.
abbrev pub flatten_bound : Option (Option ℕ) → Option ℕ
flatten_bound None = None
flatten_bound (Some b) = b

-- The bound of port `port`, from a list of bounds by port from 1.
abbrev pub bound_by_port : List (Option ℕ) → ℕ → Option ℕ
bound_by_port bounds port = if nat_eq port 0 then None else flatten_bound (slice_get bounds (port - 1))
