-- Fault lines of commands that failed, without line feed.
use Rattle.std.specs.Prelude.{ℕ, List, ◌++◌, codes, decimal, string_bytes}
use Rattle.bridge_capture.specs.declared.capture_fault.CaptureFault.{CaptureFault}
use Rattle.bridge_capture.specs.declared.capture_fault.CaptureFault.TheVariants as capture
use Rattle.bridge_capture.specs.declared.fault.RunFault.{RunFault}
use Rattle.bridge_capture.specs.declared.fault.RunFault.TheVariants as run
use Rattle.bridge_text.specs.Escaped.{escaped}
use Rattle.app_failure.specs.declared.fault.TextFault.{TextFault}
use Rattle.app_failure.specs.declared.fault.TextFault.TheVariants as text
use Rattle.app_failure.specs.declared.fault.Failure.{Failure}
use Rattle.app_failure.specs.declared.fault.Failure.TheVariants as fault
use Rattle.app_failure.specs.PlanLines.{plan_fault_line}
use Rattle.app_failure.specs.CheckLines.{check_fault_line}
use Rattle.app_failure.specs.RefusedCommands.{commands_fault_line}

-- The fault line of a port's capture, with the fault's name.
abbrev pub refused_capture : ℕ → List ℕ → List ℕ
refused_capture port name = codes "capture " ++ (decimal port ++ (codes " refused: " ++ name))

-- The fault line of a port's capture at record `number`, with the fault's name.
abbrev pub refused_record : ℕ → List ℕ → ℕ → List ℕ
refused_record port name number = codes "capture " ++ (decimal port ++ (codes " refused: " ++ (name ++ (codes " " ++ decimal number))))

-- The fault line of a port's capture that can't be read.
abbrev pub not_read : ℕ → List ℕ
not_read port = codes "capture " ++ (decimal port ++ codes " not read")

-- The fault line of a port's capture that can't be written.
abbrev pub not_written : ℕ → List ℕ
not_written port = codes "capture " ++ (decimal port ++ codes " not written")

-- The fault line of a port's capture that is refused, or can't be read or written.
abbrev pub capture_fault_line : ℕ → CaptureFault → List ℕ
capture_fault_line port capture.BadMagic = refused_capture port (codes "BadMagic")
capture_fault_line port capture.BadVersion = refused_capture port (codes "BadVersion")
capture_fault_line port capture.BadLinkType = refused_capture port (codes "BadLinkType")
capture_fault_line port capture.HeaderCut = refused_capture port (codes "HeaderCut")
capture_fault_line port (capture.RecordCut n) = refused_record port (codes "RecordCut") n
capture_fault_line port (capture.LengthsCross n) = refused_record port (codes "LengthsCross") n
capture_fault_line port (capture.RecordTooLarge n) = refused_record port (codes "RecordTooLarge") n
capture_fault_line port (capture.TimeBack n) = refused_record port (codes "TimeBack") n
capture_fault_line port (capture.TimeTooLate n) = refused_record port (codes "TimeTooLate") n
capture_fault_line port capture.TooManyRecords = refused_capture port (codes "TooManyRecords")
capture_fault_line port capture.Read = not_read port
capture_fault_line port capture.Write = not_written port
capture_fault_line port capture.NoMemory = codes "no memory"

-- The fault line of a run that stopped: at a capture, a failed write, or without memory.
abbrev pub run_fault_line : RunFault → List ℕ
run_fault_line (run.Capture port f) = capture_fault_line port f
run_fault_line (run.Write port) = not_written port
run_fault_line run.NoMemory = codes "no memory"

-- The fault line of a refused text or of its stopped run.
abbrev pub text_fault_line : TextFault → List ℕ
text_fault_line text.NotHex = codes "text refused: NotHex"
text_fault_line text.TooLong = codes "text refused: TooLong"
text_fault_line (text.Run f) = run_fault_line f

-- The fault line of a file that can't be opened, created, read or written. Control characters of its path are escaped, so that it is one
-- line.
abbrev pub file_fault_line : List ℕ → List ℕ
file_fault_line path = codes "file " ++ escaped path

-- The fault line of a command's failure, without line feed. A network's failure has its line already.
abbrev pub fault_line : Failure → List ℕ
fault_line (fault.Text f) = text_fault_line f
fault_line (fault.Run f) = run_fault_line f
fault_line (fault.Plan f) = plan_fault_line f
fault_line (fault.Check f) = check_fault_line f
fault_line (fault.Commands f) = commands_fault_line f
fault_line (fault.Network line) = string_bytes line
fault_line (fault.Rounds line) = string_bytes line
fault_line fault.Words = codes "command line refused"
fault_line fault.NoMemory = codes "no memory"
fault_line (fault.File e) = file_fault_line (string_bytes e.path)
