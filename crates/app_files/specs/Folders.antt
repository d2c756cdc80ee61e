-- Paths of the folders that a command reads and writes.
use Rattle.std.specs.Prelude.{◌≡◌, ◌≢◌, ◌⊎◌, ℕ, List, [], string_bytes}
use Rattle.app_files.specs.declared.failed_file.FileFault.{FileFault}
use Rattle.app_files.specs.declared.failed_file.FileFault.TheVariants as fault
use Rattle.app_files.specs.FailedFiles.{path_by}

-- Holds if the paths of the input and output folder aren't empty.
abbrev pub HavePaths : List ℕ → List ℕ → Type 0
HavePaths input output = (input ≢ []) × (output ≢ [])

-- Holds if one of the paths is empty, and the fault names the empty path or memory ran out. A fault of reading means the input, a fault of
-- writing the output.
abbrev pub LackPath : List ℕ → List ℕ → FileFault → Type 0
LackPath input output (fault.File e) = (path_by e.access input output ≡ []) × (string_bytes e.path ≡ [])
LackPath input output fault.NoMemory = (input ≡ []) ⊎ (output ≡ [])
