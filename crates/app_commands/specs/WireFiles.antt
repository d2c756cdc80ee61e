-- The message with the counts after a capture was sent through one queue, and the failures that can end the command.
use Rattle.std.specs.Prelude.{◌≡◌, ℕ, List, string_bytes}
use Rattle.bridge_capture.specs.declared.fault.RunFault.TheVariants as run
use Rattle.bridge_wire.specs.Wire.{NamesPortOne}
use Rattle.app_failure.specs.declared.fault.Failure.{Failure}
use Rattle.app_failure.specs.declared.fault.Failure.TheVariants as fault
use Rattle.app_files.specs.FailedFiles.{IsErrorOf, path_by}
use Rattle.app_files.specs.declared.failed_file.Access.TheVariants.{Writing}
use Rattle.app_files.specs.Said.{IsStandard}
use Rattle.app_files.specs.declared.output.Said.{Said}
use Rattle.app_files.specs.declared.output.Said.TheVariants as said
use Rattle.app_commands.specs.Jobs.{IsCountsLine}
use Rattle.app_commands.specs.Text.{StopsText}

-- Holds if the message has the counts of some run: for standard error if the capture goes to standard output, otherwise for standard
-- output.
abbrev pub SaysCounts : List ℕ → Said → Type 0
SaysCounts output (said.Printed line) = (¬ IsStandard output) × IsCountsLine (string_bytes line)
SaysCounts output (said.Noted line) = IsStandard output × IsCountsLine (string_bytes line)

-- Holds if the failure can end a run over a capture into the writer of a path: the capture is refused, or the writer failed.
abbrev pub EndsOver : List ℕ → List ℕ → Failure → Type 0
EndsOver output input (fault.File e) = IsStandard output × IsErrorOf Writing output e
EndsOver output input fault.NoMemory = Unit {0}
EndsOver output input (fault.Run (run.Write port)) = (¬ IsStandard output) × (port ≡ 1)
EndsOver output input (fault.Run f) = StopsText input f
EndsOver output input f = ⊥

-- Holds if the failure can end a run into the file at a path: the file failed, or the only capture.
abbrev pub EndsInto : List ℕ → Failure → Type 0
EndsInto output (fault.File e) = IsErrorOf Writing output e
EndsInto output fault.NoMemory = Unit {0}
EndsInto output (fault.Run (run.Write port)) = (¬ IsStandard output) × (port ≡ 1)
EndsInto output (fault.Run f) = NamesPortOne f
EndsInto output f = ⊥

-- Holds if the failure ends a run from one file into another. If a read failed, it names the input; if a write failed, the output.
abbrev pub EndsWiring : List ℕ → List ℕ → Failure → Type 0
EndsWiring input output (fault.File e) = string_bytes e.path ≡ path_by e.access input output
EndsWiring input output f = EndsInto output f
