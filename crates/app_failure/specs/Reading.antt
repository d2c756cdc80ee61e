-- Failures of files.
use Rattle.std.specs.Prelude.{◌≡◌, ℕ, List, [], codes, string_bytes}
use Rattle.app_files.specs.declared.failed_file.Access.{Access}
use Rattle.app_files.specs.FailedFiles.{IsCapture, IsErrorOf, path_by}
use Rattle.app_failure.specs.declared.fault.Failure.{Failure}
use Rattle.app_failure.specs.declared.fault.Failure.TheVariants as fault

-- Holds if the file at `path` failed with this access, or memory ran out.
abbrev pub IsFileFault : Access → List ℕ → Failure → Type 0
IsFileFault access path (fault.File e) = IsErrorOf access path e
IsFileFault access path fault.NoMemory = Unit {0}
IsFileFault access path f = ⊥

-- Holds if standard input (`Reading`) or standard output (`Writing`) failed, or memory ran out.
abbrev pub IsStandardStreamFault : Access → Failure → Type 0
IsStandardStreamFault access f = IsFileFault access (codes "-") f

-- Holds if the capture of one of these ports in a folder failed with this access, or memory ran out.
abbrev pub FailsCaptures : Access → List ℕ → List ℕ → Failure → Type 0
FailsCaptures access folder ports (fault.File e) = (e.access ≡ access) × IsCapture folder ports (string_bytes e.path)
FailsCaptures access folder ports fault.NoMemory = Unit {0}
FailsCaptures access folder ports f = ⊥

-- Holds if one of two folders has an empty path and the failure names the empty path, or memory ran out. If it names a read, the input
-- folder is meant, otherwise the output folder.
abbrev pub LacksPath : List ℕ → List ℕ → Failure → Type 0
LacksPath input output (fault.File e) = (path_by e.access input output ≡ []) × (string_bytes e.path ≡ [])
LacksPath input output fault.NoMemory = Unit {0}
LacksPath input output f = ⊥

-- Holds if the command's failure is a failed file or `NoMemory`.
abbrev pub EndsFiles : Failure → Type 0
EndsFiles (fault.File e) = Unit {0}
EndsFiles fault.NoMemory = Unit {0}
EndsFiles f = ⊥
