-- Texts that begin with the path of a file, such as explanations.
use Rattle.std.specs.Prelude.{◌≡◌, ◌++◌, ℕ, List}

-- Holds if the text `said` begins with `name`. Contracts of explanations state it of the file's path.
abbrev pub StartsWithName : List ℕ → List ℕ → Type 0
StartsWithName name said = (rest : List ℕ) × (said ≡ name ++ rest)
