-- Outputs, exit statuses and failures of the commands for one bridge.
use Rattle.std.specs.Prelude.{◌≡◌, ◌⊎◌, ◌++◌, ◌&&◌, ℕ, Bool, true, false, not, List, [], None, Option, Some, String, string_bytes}
use Rattle.std.specs.declared.alloc.Global.{Global}
use Rattle.std.specs.Io.KnownBytes.{Appends}
use Rattle.app_failure.specs.declared.fault.Failure.{Failure}
use Rattle.app_failure.specs.Jobs.{PrintsAccepted}
use Rattle.app_failure.specs.Reading.{IsStandardStreamFault}
use Rattle.app_files.specs.declared.failed_file.Access.TheVariants.{Writing}
use Rattle.app_files.specs.Folders.{HavePaths}
use Rattle.app_files.specs.Said.{IsStandard}
use Rattle.app_commands.specs.Jobs.{EndsText, IsCountsLine, PrintsText}
use Rattle.app_commands.specs.RunFiles.{PrintsRun}
use Rattle.app_commands.specs.declared.output.Output.{Output}
use Rattle.app_commands.specs.Outputs.{Prints, Reports, status_if}
use Rattle.app_commands.specs.Losing.{TellsLost, status_of}
use Rattle.app_commands.specs.Notes.{AreNotes}
use Rattle.app_commands.specs.declared.strict.StrictRun.{StrictRun}

-- NO ARGUMENTS

-- Holds if the program prints the output of some hexadecimal text's run.
abbrev pub IsTextOutput : Output → Type 0
IsTextOutput output = (input : List ℕ) × (lines : List ℕ) × PrintsText input lines × Prints lines [] 0 output

-- Holds if failure `f` can end the run of a hexadecimal text.
abbrev pub FailsText : Failure → Type 0
FailsText f = (input : List ℕ) × EndsText input f

-- WIRE

-- Holds if the program prints the counts of a run through one queue to standard output. If the capture goes to standard output, the counts
-- go to standard error.
abbrev pub IsWireOutput : List ℕ → Output → Type 0
IsWireOutput path output =
    (line : List ℕ) × IsCountsLine line × (((¬ IsStandard path) × Prints line [] 0 output) ⊎ (IsStandard path × Prints [] line 0 output))

-- CHECK

-- Holds if the program prints the line of an accepted plan and the text about it. The status is 1 if warnings are errors and the plan has
-- one, otherwise 0.
abbrev pub IsCheckOutput : Bool → Bool → Output → Type 0
IsCheckOutput strict explained output =
    (text : List ℕ) × (line : List ℕ) × (notes : List ℕ) × (warned : Bool) × PrintsAccepted Global text line × AreNotes strict explained notes warned
    × Prints line notes (status_if (not (warned && strict))) output

-- RUN

-- Holds if the program prints the line of a complete run, the text about its plan, and lines of lost frames if losses
-- are errors.
--
-- The status is 1 exactly if there are lines of lost frames.
abbrev pub IsDoneRun : List ℕ → List ℕ → Bool → Bool → Output → Type 0
IsDoneRun input folder strict explained output =
    (line : List ℕ) × (notes : List ℕ) × (lost : List ℕ) × (lossy : Bool) × PrintsRun Global line × HavePaths input folder × AreNotes strict explained notes false
    × TellsLost Global strict line lost lossy × Prints line (notes ++ lost) (status_of false lossy) output

-- Holds if nothing ran because the plan has a warning and warnings are errors: there is no line, and the status is 1.
abbrev pub IsIdleRun : Bool → Bool → Output → Type 0
IsIdleRun strict explained output = (strict ≡ true) × ((notes : List ℕ) × AreNotes strict explained notes true × Prints [] notes 1 output)

-- Holds if the program prints the output of a run, complete or refused by a warning.
abbrev pub IsRunOutput : List ℕ → List ℕ → Bool → Bool → Output → Type 0
IsRunOutput input folder strict explained output = IsDoneRun input folder strict explained output ⊎ IsIdleRun strict explained output

-- The line of a run; empty if a warning kept it from running.
abbrev pub line_if : Option (String Global) → List ℕ
line_if None = []
line_if (Some line) = string_bytes line

-- Holds if the program prints the lines of run `r` with its exit status.
abbrev pub IsOutputOf : StrictRun → Output → Type 0
IsOutputOf r output = Prints (line_if r.line) (string_bytes r.told ++ string_bytes r.lost) (status_of r.is_warned r.is_lossy) output

-- PICTURE

-- Holds if the program prints a picture if its path is standard output, otherwise nothing, and ends with 0.
abbrev pub IsPictureOutput : List ℕ → Output → Type 0
IsPictureOutput path output = (text : List ℕ) × (IsStandard path ⊎ (text ≡ [])) × Prints text [] 0 output

-- STANDARD OUTPUT

-- Holds if the program reports that standard output failed.
abbrev pub IsStandardFailure : Bool → Output → Type 0
IsStandardFailure explained output = (f : Failure) × IsStandardStreamFault Writing f × Reports explained f output

-- Holds if `done` is the given output, and the writer received its text for standard output. Without a writer, `done` reports that standard
-- output failed.
abbrev pub IsPut : {W : Type 0} → (W → Option (List ℕ)) → W → Bool → Output → Output → Option W → Type 0
IsPut contents old explained output done None = IsStandardFailure explained done
IsPut contents old explained output done (Some new) = (done ≡ output) × Appends (contents old) (contents new) (string_bytes output.stdout)
