-- Names of a network's bridges, in fault lines and warnings.
use Rattle.std.specs.Prelude.{ℕ, zero, suc, List, [], ◌∷◌}
use Rattle.net_file.specs.Model.{Bridge}

-- The name of the bridge with index `b`; empty if it is missing.
abbrev pub bridge_name : List Bridge → ℕ → List ℕ
bridge_name [] b = []
bridge_name (x ∷ xs) zero = x.name
bridge_name (x ∷ xs) (suc b) = bridge_name xs b
