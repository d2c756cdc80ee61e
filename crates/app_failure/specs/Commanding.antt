-- A plan with the commands of its run, and the failures of reading both.
use Rattle.std.specs.Prelude.{◌≡◌, ◌≢◌, ℕ, List, [], Option, None, Some, Result, Ok, string_bytes}
use Rattle.bridge_schema.specs.declared.plan_fault.PlanFault.{PlanFault}
use Rattle.bridge_schema.specs.Readers.{IsReadFault}
use Rattle.bridge_config.specs.declared.command.Command.{Command}
use Rattle.bridge_config.specs.Document.{text_commands}
use Rattle.bridge_config.specs.Model.{Plan}
use Rattle.app_files.specs.declared.failed_file.Access.TheVariants.{Reading}
use Rattle.app_failure.specs.declared.fault.Failure.{Failure}
use Rattle.app_failure.specs.declared.fault.Failure.TheVariants as fault
use Rattle.app_failure.specs.Jobs.{RefusesCheck}
use Rattle.app_failure.specs.Reading.{IsFileFault}

-- The commands of an optional text; the empty list without a text.
abbrev pub commands_for : {A : Type 0} → Plan A → Option (List ℕ) → Result (List Command) PlanFault
commands_for plan None = Ok []
commands_for plan (Some text) = text_commands plan text

-- Holds if an optional file is present and its reader has the given text, or if file and text are both missing.
abbrev pub TellsText : {S R : Type 0} → (R → Option (List ℕ)) → Option (S × R) → Option (List ℕ) → Type 0
TellsText remaining None None = Unit {0}
TellsText remaining (Some file) (Some text) = remaining file.1 ≡ Some text
TellsText remaining None (Some text) = ⊥
TellsText remaining (Some file) None = ⊥

-- Holds if failure `f` can end the reading of commands from the file at `path`.
abbrev pub EndsCommands : {A : Type 0} → Plan A → List ℕ → List ℕ → Failure → Type 0
EndsCommands plan path input (fault.Commands f) = IsReadFault f (text_commands plan input)
EndsCommands plan path input f = IsFileFault Reading path f

-- Holds if failure `f` can end the reading of the commands of plan `plan`, or its check. The check follows the reading.
abbrev pub EndsCommanded : {A : Type 0} → Plan A → Option (List ℕ) → Option (List ℕ) → Failure → Type 0
EndsCommanded plan path text (fault.Commands f) = (path ≢ None) × IsReadFault f (commands_for plan text)
EndsCommanded plan path text (fault.Check f) = ((commands : List Command) × (commands_for plan text ≡ Ok commands)) × RefusesCheck plan (fault.Check f)
EndsCommanded plan path text (fault.File e) = (e.access ≡ Reading) × (path ≡ Some (string_bytes e.path))
EndsCommanded plan path text fault.NoMemory = path ≢ None
EndsCommanded plan path text f = ⊥
