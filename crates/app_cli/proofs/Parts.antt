-- Values that name a part of a run or plan.
use Rattle.std.proofs.Common.{◌≢◌, ℕ, List, None, Option, Some, codes, refl, subst}
use Rattle.clap.specs.Words.{Row, first_of}
use Rattle.app_cli.specs.Sketching.{HasNoPart, IsBound}

-- If a start is given, the values name a part.
pub from_given : (values : List Row) (from : Option ℕ) → IsBound (first_of (codes "from") values) from → from ≢ None → ¬ HasNoPart values
from_given values None bound given none = given refl
from_given values (Some t) bound given none = subst (λ w. IsBound w (Some t)) none.0 bound
