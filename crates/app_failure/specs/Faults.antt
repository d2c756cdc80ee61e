-- Failures of commands because of a file or of memory.
use Rattle.app_files.specs.declared.failed_file.FileFault.{FileFault}
use Rattle.app_files.specs.declared.failed_file.FileFault.TheVariants as file
use Rattle.app_failure.specs.declared.fault.Failure.{Failure}
use Rattle.app_failure.specs.declared.fault.Failure.TheVariants as fault

-- The command's failure for a file fault: the failed file, or `NoMemory`.
abbrev pub of_file_fault : FileFault → Failure
of_file_fault (file.File e) = fault.File e
of_file_fault file.NoMemory = fault.NoMemory
