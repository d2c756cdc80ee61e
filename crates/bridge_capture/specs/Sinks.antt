-- Contents of a capture's sink after a failed write.
use Rattle.std.specs.Prelude.{ℕ, ◌≤◌, Option, List, length, take}
use Rattle.std.specs.Io.KnownBytes.{Appends}

-- Holds if the sink's contents, if known, grew by a prefix of `octets`.
abbrev pub AppendsPrefix : Option (List ℕ) → Option (List ℕ) → List ℕ → Type 0
AppendsPrefix old new octets = (n : ℕ) × (n ≤ length octets) × Appends old new (take n octets)
