-- Faults of files, with the path of the failed file.
use Rattle.std.specs.Prelude.{◌≡◌, ℕ, List, string_bytes}
use Rattle.bridge_limits.specs.Members.{IsMember}
use Rattle.app_files.specs.declared.cause.Cause.{Cause}
use Rattle.app_files.specs.declared.failed_file.Access.{Access}
use Rattle.app_files.specs.declared.failed_file.Access.TheVariants.{Reading, Writing}
use Rattle.app_files.specs.declared.failed_file.FileError.{FileError}
use Rattle.app_files.specs.declared.failed_file.FileFault.{FileFault}
use Rattle.app_files.specs.declared.failed_file.FileFault.TheVariants as fault
use Rattle.app_files.specs.Paths.{capture_path}

-- Holds if the error is of the file at `path`, with this access.
abbrev pub IsErrorOf : Access → List ℕ → FileError → Type 0
IsErrorOf access path e = (e.access ≡ access) × (string_bytes e.path ≡ path)

-- Holds if the fault names the file at `path`, with this access, or memory ran out.
abbrev pub IsOfPath : Access → List ℕ → FileFault → Type 0
IsOfPath access path (fault.File e) = IsErrorOf access path e
IsOfPath access path fault.NoMemory = Unit {0}

-- Holds if the fault has this cause, or memory ran out.
abbrev pub HasCause : Cause → FileFault → Type 0
HasCause cause (fault.File e) = e.cause ≡ cause
HasCause cause fault.NoMemory = Unit {0}

-- Holds if `path` is the path of the capture of one of these ports in a folder.
abbrev pub IsCapture : List ℕ → List ℕ → List ℕ → Type 0
IsCapture folder ports path = (port : ℕ) × IsMember port ports × (path ≡ capture_path folder port)

-- Holds if the fault names the capture of one of these ports in a folder, with this access, or memory ran out.
abbrev pub IsCaptureFault : Access → List ℕ → List ℕ → FileFault → Type 0
IsCaptureFault access folder ports (fault.File e) = (e.access ≡ access) × IsCapture folder ports (string_bytes e.path)
IsCaptureFault access folder ports fault.NoMemory = Unit {0}

-- The input for a file that was read, the output for a file that was written.
abbrev pub path_by : Access → List ℕ → List ℕ → List ℕ
path_by Reading input output = input
path_by Writing input output = output
