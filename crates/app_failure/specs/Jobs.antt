-- Jobs over plans: the printed line, and the failure that ends each job.
use Rattle.std.specs.Prelude.{◌≡◌, ◌⊎◌, ℕ, List, None, Some, Ok}
use Rattle.bridge_schema.specs.Readers.{IsReadFault}
use Rattle.bridge_config.specs.Model.{Plan}
use Rattle.bridge_config.specs.Document.{text_plan}
use Rattle.bridge_check.specs.Faults.{first_fault}
use Rattle.bridge_check.specs.declared.check_fault.CheckFault.TheVariants as check
use Rattle.app_files.specs.declared.failed_file.Access.TheVariants.{Reading}
use Rattle.app_failure.specs.declared.fault.Failure.{Failure}
use Rattle.app_failure.specs.declared.fault.Failure.TheVariants as fault
use Rattle.app_failure.specs.Accepting.{accepted_line}
use Rattle.app_failure.specs.Reading.{IsFileFault}

-- Holds if the text is a valid plan, and the plan isolates each of its protected filters.
abbrev pub Accepts : {A : Type 0} → List ℕ → Plan A → Type 0
Accepts input plan = (text_plan input ≡ Ok plan) × (first_fault plan ≡ None)

-- Holds if failure `f` is why `check` refuses the plan: memory ran out, or its first fault.
abbrev pub RefusesCheck : {A : Type 0} → Plan A → Failure → Type 0
RefusesCheck plan (fault.Check f) = (f ≡ check.NoMemory) ⊎ (first_fault plan ≡ Some f)
RefusesCheck plan f = ⊥

-- Holds if failure `f` is why a plan's text, or the plan in it, is refused.
abbrev pub RefusesPlan : (A : Type 0) → List ℕ → Failure → Type 0
RefusesPlan A input (fault.Plan f) = IsReadFault f (text_plan {A = A} input)
RefusesPlan A input (fault.Check f) = (plan : Plan A) × (text_plan input ≡ Ok plan) × ((f ≡ check.NoMemory) ⊎ (first_fault plan ≡ Some f))
RefusesPlan A input f = ⊥

-- Holds if failure `f` can end the reading of a plan from the file at `path`.
abbrev pub EndsPlan : (A : Type 0) → List ℕ → List ℕ → Failure → Type 0
EndsPlan A path input (fault.Plan f) = IsReadFault f (text_plan {A = A} input)
EndsPlan A path input f = IsFileFault Reading path f

-- Holds if `line` is the line for the accepted plan of this text.
abbrev pub PrintsAccepted : (A : Type 0) → List ℕ → List ℕ → Type 0
PrintsAccepted A input line = (plan : Plan A) × Accepts input plan × (line ≡ accepted_line plan.filters)

-- Holds if failure `f` can end the check of a plan from the file at `path`.
abbrev pub EndsCheck : (A : Type 0) → List ℕ → List ℕ → Failure → Type 0
EndsCheck A path input (fault.Plan f) = RefusesPlan A input (fault.Plan f)
EndsCheck A path input (fault.Check f) = RefusesPlan A input (fault.Check f)
EndsCheck A path input f = IsFileFault Reading path f
