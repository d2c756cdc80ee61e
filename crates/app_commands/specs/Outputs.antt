-- Outputs of the program, and its exit status.
use Rattle.std.specs.Prelude.{◌≡◌, ◌++◌, ◌∷◌, ℕ, [], Bool, false, List, None, Option, Some, String, if◌then◌else◌, length, nat_eq, not, string_bytes}
use Rattle.std.specs.declared.alloc.Global.{Global}
use Rattle.app_cli.specs.declared.words_fault.ArgumentsFault.{ArgumentsFault}
use Rattle.app_cli.specs.declared.words_fault.ArgumentsFault.TheVariants as words
use Rattle.app_failure.specs.declared.fault.Failure.{Failure}
use Rattle.app_failure.specs.declared.fault.Failure.TheVariants as fault
use Rattle.app_failure.specs.Lines.{fault_line}
use Rattle.app_failure.specs.Status.{fault_status}
use Rattle.app_commands.specs.declared.output.Output.{Output}

-- The command's failure for refused arguments, or for memory that ran out while they were read.
abbrev pub of_words_fault : ArgumentsFault → Failure
of_words_fault words.Words = fault.Words
of_words_fault words.NoMemory = fault.NoMemory

-- Holds if standard output receives `stdout`, standard error receives `stderr`, and the exit status is `status`.
abbrev pub Prints : List ℕ → List ℕ → ℕ → Output → Type 0
Prints stdout stderr status output = (string_bytes output.stdout ≡ stdout) × (string_bytes output.stderr ≡ stderr) × (output.status ≡ status)

-- The exit status of a successful command: 0 if all is well, otherwise 1.
abbrev pub status_if : Bool → ℕ
status_if well = if well then 0 else 1

-- True if the text `text` isn't empty, so that the program prints it.
abbrev pub has_text : List ℕ → Bool
has_text text = not (nat_eq (length text) 0)

-- Holds if `text` is `line` with its line feed, followed by the explanation as far as memory suffices.
abbrev pub HasLine : List ℕ → Option (String Global) → List ℕ → Type 0
HasLine line None text = text ≡ line ++ 10 ∷ []
HasLine line (Some explanation) text = (more : List ℕ) × (text ≡ line ++ 10 ∷ more)

-- Holds if the program prints the fault line of failure `f` to standard error, and nothing to standard output. The exit status is the one
-- that `fault_status` defines for `f`.
abbrev pub ReportsFault : Failure → Option (String Global) → Output → Type 0
ReportsFault f explanation output =
    (string_bytes output.stdout ≡ []) × HasLine (fault_line f) explanation (string_bytes output.stderr) × (output.status ≡ fault_status f)

-- Holds if the program reports failure `f`. If no explanation is requested, standard error receives only the fault line.
abbrev pub Reports : Bool → Failure → Output → Type 0
Reports explained f output =
    (more : List ℕ) × (explained ≡ false → more ≡ []) × Prints [] (fault_line f ++ 10 ∷ more) (fault_status f) output
