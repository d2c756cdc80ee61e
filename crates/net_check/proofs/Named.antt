-- Names of bridges.
use Rattle.std.proofs.Common.{◌≡◌, ◌<◌, ◌≤◌, ℕ, zero, suc, List, [], ◌∷◌, length, get_or, refl, arith}
use Rattle.net_file.specs.Model.{Bridge}
use Rattle.net_check.specs.Naming.{bridge_name}

-- The name of a bridge that exists.
pub name_there : (bridges : List Bridge) (b : ℕ) (d : Bridge) → b < length bridges → (get_or bridges b d).name ≡ bridge_name bridges b
name_there [] b d less = absurd (omega (arith, less))
name_there (x ∷ xs) zero d less = refl
name_there (x ∷ xs) (suc b) d less = name_there xs b d (omega (arith, less))

-- A missing bridge has an empty name.
pub name_absent : (bridges : List Bridge) (b : ℕ) → length bridges ≤ b → [] ≡ bridge_name bridges b
name_absent [] b most = refl
name_absent (x ∷ xs) zero most = absurd (omega (arith, most))
name_absent (x ∷ xs) (suc b) most = name_absent xs b (omega (arith, most))
