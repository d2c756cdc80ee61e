-- Failures that can end the check of a plan.
use Rattle.std.specs.Prelude.{ℕ, List}
use Rattle.app_failure.specs.declared.fault.Failure.{Failure}
use Rattle.app_failure.specs.Jobs.{EndsCheck}

-- Holds if failure `f` can end the check of the plan at path `plan`: the text is refused, the file failed, or memory
-- ran out. The path `-` stands for standard input.
abbrev pub EndsChecked : (A : Type 0) → List ℕ → Failure → Type 0
EndsChecked A plan f = (text : List ℕ) × EndsCheck A plan text f
