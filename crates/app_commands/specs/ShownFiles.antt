-- Failures of the tables and pictures that a run writes.
use Rattle.std.specs.Prelude.{◌≡◌, ◌⊎◌, ℕ, List, Option, None, Some, String}
use Rattle.std.specs.declared.alloc.Global.{Global}
use Rattle.std.specs.Io.KnownBytes.{Appends}
use Rattle.bridge_config.specs.Model.{Plan}
use Rattle.bridge_semantics.specs.declared.outcome.Outcome.{Outcome}
use Rattle.show_tables.specs.FrameTable.{frame_table}
use Rattle.app_files.specs.declared.failed_file.Access.TheVariants.{Writing}
use Rattle.app_failure.specs.declared.fault.Failure.{Failure}
use Rattle.app_failure.specs.declared.fault.Failure.TheVariants as fault
use Rattle.app_failure.specs.Jobs.{EndsPlan}
use Rattle.app_failure.specs.Reading.{IsFileFault}
use Rattle.app_commands.specs.RunFiles.{EndsRun, EndsSending}

-- Holds if the picture at path `file` failed, or memory ran out.
abbrev pub IsOfPicture : List ℕ → Failure → Type 0
IsOfPicture file f = IsFileFault Writing file f

-- Holds if failure `f` can end the picture of a plan: some plan text is refused, or a file failed.
abbrev pub EndsPicture : (A : Type 0) → List ℕ → List ℕ → Failure → Type 0
EndsPicture A plan file f = ((text : List ℕ) × EndsPlan A plan text f) ⊎ IsOfPicture file f

-- Holds if the requested picture failed, or memory ran out.
abbrev pub IsOfShowing : Option (List ℕ) → Failure → Type 0
IsOfShowing None f = f ≡ fault.NoMemory
IsOfShowing (Some file) f = IsOfPicture file f

-- Holds if failure `f` can end a run under plan `p`, with an optional picture.
abbrev pub EndsShown : {A : Type 0} → Plan A → List ℕ → List ℕ → Option (List ℕ) → Failure → Type 0
EndsShown p input output None f = EndsSending p input output f
EndsShown p input output (Some file) f = EndsSending p input output f ⊎ IsOfPicture file f

-- Holds if failure `f` can end a run over files, with an optional picture.
abbrev pub EndsDrawn : (A : Type 0) → List ℕ → Option (List ℕ) → List ℕ → List ℕ → Option (List ℕ) → Failure → Type 0
EndsDrawn A plan commands input output None f = EndsRun A plan commands input output f
EndsDrawn A plan commands input output (Some file) f = EndsRun A plan commands input output f ⊎ IsOfPicture file f

-- Holds if the requested table failed, or memory ran out.
abbrev pub IsOfTable : Option (List ℕ) → Failure → Type 0
IsOfTable None f = ⊥
IsOfTable (Some file) f = IsFileFault Writing file f

-- Holds if the requested table of delays or of frames failed, or memory ran out.
abbrev pub IsOfTables : Option (List ℕ) → Option (List ℕ) → Failure → Type 0
IsOfTables delays frames f = IsOfTable delays f ⊎ IsOfTable frames f

-- Holds if failure `f` can end a run under plan `p`, with optional tables and picture. The picture follows the tables.
abbrev pub EndsTabled : {A : Type 0} → Plan A → List ℕ → List ℕ → Option (List ℕ) → Option (List ℕ) → Option (List ℕ) → Failure → Type 0
EndsTabled p input output delays frames picture f = EndsShown p input output picture f ⊎ IsOfTables delays frames f

-- Holds if failure `f` can end a run over files, with optional tables and picture.
abbrev pub EndsTold : (A : Type 0) → List ℕ → Option (List ℕ) → List ℕ → List ℕ → Option (List ℕ) → Option (List ℕ) → Option (List ℕ) → Failure → Type 0
EndsTold A plan commands input output delays frames picture f = EndsDrawn A plan commands input output picture f ⊎ IsOfTables delays frames f

-- Holds if a file has a text: the text was appended to some file, and this file is the result.
abbrev pub IsWritten : {W : Type 0} → (W → Option (List ℕ)) → List ℕ → W → Type 0
IsWritten {W} contents text done = (before : W) × Appends (contents before) (contents done) text

-- Holds if `text` is the table of a run's frames.
abbrev pub IsFrameTable : {A : Type 0} → Outcome A → List ℕ → Type 0
IsFrameTable outcome text = text ≡ frame_table outcome.filters.items

-- Holds if a requested table was written: a file has a text that is the table. There is no file if the table isn't requested.
abbrev pub IsTableWritten : {W : Type 0} → (W → Option (List ℕ)) → (List ℕ → Type 0) → Option (String Global) → Option W → Type 0
IsTableWritten contents is_table None None = Unit {0}
IsTableWritten contents is_table (Some path) (Some file) = (text : List ℕ) × is_table text × IsWritten contents text file
IsTableWritten contents is_table path file = ⊥
