-- The line of counts after the command `wire`, and the output that gets it.
use Rattle.std.specs.Prelude.{◌≡◌, ℕ, Bool, true, false, List, codes, string_bytes}
use Rattle.app_files.specs.declared.output.Said.{Said}
use Rattle.app_files.specs.declared.output.Said.TheVariants as said

-- Holds if an argument stands for standard input or output.
abbrev pub IsStandard : List ℕ → Type 0
IsStandard word = word ≡ codes "-"

-- The line of counts of a run, whether it goes to standard output or to standard error.
abbrev pub line_of : Said → List ℕ
line_of (said.Printed line) = string_bytes line
line_of (said.Noted line) = string_bytes line

-- True if the line of counts goes to standard error.
abbrev pub is_noted : Said → Bool
is_noted (said.Printed line) = false
is_noted (said.Noted line) = true
