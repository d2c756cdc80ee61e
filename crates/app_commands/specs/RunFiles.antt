-- Files of a run that fail, and the line of a run.
use Rattle.std.specs.Prelude.{◌≡◌, ◌⊎◌, ℕ, List, None, Option, Ok, string_bytes}
use Rattle.std.specs.Io.KnownBytes.{Appends}
use Rattle.bridge_check.specs.Faults.{first_fault}
use Rattle.bridge_report.specs.Section.{report_text}
use Rattle.bridge_config.specs.Document.{text_plan}
use Rattle.bridge_config.specs.Model.{Plan}
use Rattle.app_failure.specs.declared.fault.Failure.{Failure}
use Rattle.app_failure.specs.declared.fault.Failure.TheVariants as fault
use Rattle.app_failure.specs.Commanding.{EndsCommanded}
use Rattle.app_failure.specs.Jobs.{Accepts, EndsPlan}
use Rattle.bridge_report.specs.Summary.{summary_text}
use Rattle.bridge_semantics.specs.declared.outcome.Outcome.{Outcome}
use Rattle.bridge_core.specs.WholeRuns.{ArePortNumbers}
use Rattle.app_failure.specs.Reading.{FailsCaptures, IsFileFault, LacksPath}
use Rattle.app_files.specs.declared.failed_file.Access.{Access}
use Rattle.app_files.specs.declared.failed_file.Access.TheVariants.{Reading, Writing}
use Rattle.app_files.specs.FailedFiles.{IsCapture}
use Rattle.app_files.specs.Folders.{HavePaths}
use Rattle.app_files.specs.Paths.{report_path}

-- Holds if the report in a folder failed, or memory ran out.
abbrev pub IsOfReport : List ℕ → Failure → Type 0
IsOfReport folder f = IsFileFault Writing (report_path folder) f

-- Holds if an output in a folder failed, a capture of one of these ports or the report, or memory ran out.
abbrev pub IsOfOutputs : List ℕ → List ℕ → Failure → Type 0
IsOfOutputs folder ports f = FailsCaptures Writing folder ports f ⊎ IsOfReport folder f

-- Holds if a file has the report of a run: the report was appended to some file, and this file is the result.
abbrev pub HasReport : {A W : Type 0} → (W → Option (List ℕ)) → Outcome A → W → Type 0
HasReport {A} {W} contents outcome report = (before : W) × Appends (contents before) (contents report) (report_text outcome.filters.items)

-- Holds if some contents of a plan file describe plan `plan`.
abbrev pub IsPlanOfText : {A : Type 0} → Plan A → Type 0
IsPlanOfText plan = (text : List ℕ) × (text_plan text ≡ Ok plan)

-- Holds if some contents of a plan file describe plan `plan`, and the plan isolates each of its protected filters.
abbrev pub IsAcceptedPlan : {A : Type 0} → Plan A → Type 0
IsAcceptedPlan plan = (text : List ℕ) × Accepts text plan

-- Holds if `accepted` is the plan `plan`, which isolates each of its protected filters.
abbrev pub IsCheckedPlan : {A : Type 0} → Plan A → Plan A → Type 0
IsCheckedPlan plan accepted = (accepted ≡ plan) × (first_fault plan ≡ None)

-- Holds if failure `f` can end the reading of commands for plan `p`, from the file at an optional path.
abbrev pub EndsWithCommands : {A : Type 0} → Plan A → Option (List ℕ) → Failure → Type 0
EndsWithCommands p commands f = (text : Option (List ℕ)) × EndsCommanded p commands text f

-- Holds if failure `f` can end the reading of a plan and its commands: one of both is refused, or a file failed.
abbrev pub EndsReading : (A : Type 0) → List ℕ → Option (List ℕ) → Failure → Type 0
EndsReading A plan commands f = ((text : List ℕ) × EndsPlan A plan text f) ⊎ ((p : Plan A) × IsPlanOfText p × EndsWithCommands p commands f)

-- Holds if `path` is the capture of one of the plan's ports in a folder.
abbrev pub IsCaptureOfRun : {A : Type 0} → Plan A → List ℕ → List ℕ → Type 0
IsCaptureOfRun p folder path = (ports : List ℕ) × ArePortNumbers p ports × IsCapture folder ports path

-- Holds if a file fault of the run can name `path`. A fault of reading names an input capture.
--
-- A fault of writing names an output capture, the report, or the output folder if it is the input folder.
abbrev pub IsFileOfRun : {A : Type 0} → Plan A → List ℕ → List ℕ → Access → List ℕ → Type 0
IsFileOfRun p input output Reading path = IsCaptureOfRun p input path
IsFileOfRun p input output Writing path = IsCaptureOfRun p output path ⊎ ((path ≡ output) ⊎ (path ≡ report_path output))

-- Holds if failure `f` can end a run under a plan between two folders. An empty path, a file of the run, or the run itself failed.
abbrev pub EndsSending : {A : Type 0} → Plan A → List ℕ → List ℕ → Failure → Type 0
EndsSending p input output (fault.File e) =
    LacksPath input output (fault.File e) ⊎ (HavePaths input output × IsFileOfRun p input output e.access (string_bytes e.path))
EndsSending p input output fault.NoMemory = Unit {0}
EndsSending p input output (fault.Run f) = Unit {0}
EndsSending p input output f = ⊥

-- Holds if failure `f` can end a run over files: reading failed, or the run under some accepted plan.
abbrev pub EndsRun : (A : Type 0) → List ℕ → Option (List ℕ) → List ℕ → List ℕ → Failure → Type 0
EndsRun A plan commands input output f = EndsReading A plan commands f ⊎ ((p : Plan A) × IsAcceptedPlan p × EndsSending p input output f)

-- Holds if `line` is the line of counts of some run that `run` prints.
abbrev pub PrintsRun : (A : Type 0) → List ℕ → Type 0
PrintsRun A line = (outcome : Outcome A) × (line ≡ summary_text outcome.ports.items)
