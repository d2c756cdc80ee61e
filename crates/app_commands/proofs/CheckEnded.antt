-- Plans that can't be read, and faults of arguments.
use Rattle.std.proofs.Common.{◌≡◌, ℕ, Bool, false, Err, Global, IfOk, List, None, Ok, Option, Result, Some, String, [], refl}
use Rattle.bridge_limits.specs.declared.NoMemory.{NoMemory}
use Rattle.bridge_limits.proofs.Options.{some_is_none}
use Rattle.app_files.specs.declared.failed_file.Access.TheVariants.{Reading}
use Rattle.app_failure.specs.declared.fault.Failure.{Failure}
use Rattle.app_failure.specs.declared.fault.Failure.TheVariants as fault
use Rattle.app_failure.specs.Jobs.{EndsCheck}
use Rattle.app_failure.specs.Reading.{IsFileFault}
use Rattle.app_commands.specs.Checked.{EndsChecked}
use Rattle.app_commands.specs.Outputs.{Reports, ReportsFault}
use Rattle.app_commands.specs.declared.output.Output.{Output}

of_file : (A : Type 0) (plan : List ℕ) (f : Failure) → IsFileFault Reading plan f → EndsCheck A plan [] f
of_file A plan (fault.File e) h = h
of_file A plan fault.NoMemory h = h
of_file A plan f h = absurd h

-- A plan that can't be read ends the check.
pub not_checked : (A : Type 0) (plan : List ℕ) (f : Failure) → IsFileFault Reading plan f → EndsChecked A plan f
not_checked A plan f h = ([], of_file A plan f h)

reported_with : (explained : Bool) (f : Failure) (explanation : Option (String Global)) (output : Output) → (explained ≡ false → explanation ≡ None) → ReportsFault f explanation output → Reports explained f output
reported_with explained f None output plain told = ([], (λ _. refl), (told.0, told.1, told.2))
reported_with explained f (Some s) output plain told = (told.1.0, (λ is. absurd (some_is_none s (plain is))), (told.0, told.1.1, told.2))

-- A failure is reported, with an explanation only if one is requested.
pub reported : (explained : Bool) (f : Failure) (explanation : Option (String Global)) (r : Result Output NoMemory) → (explained ≡ false → explanation ≡ None) → IfOk r (ReportsFault f explanation) → IfOk r (Reports explained f)
reported explained f explanation (Ok output) plain told = reported_with explained f explanation output plain told
reported explained f explanation (Err e) plain told = tt
