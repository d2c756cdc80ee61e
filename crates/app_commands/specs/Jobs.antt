-- Jobs over one queue: the printed text, and the failure that ends each job.
use Rattle.std.specs.Prelude.{◌≡◌, ◌⊎◌, ◌+◌, ℕ, List, Option, Ok, Err}
use Rattle.bridge_frame.specs.declared.Speed.{Speed}
use Rattle.bridge_capture.specs.Hex.{spelled_octets}
use Rattle.bridge_capture.specs.declared.hex_fault.HexFault.TheVariants as hex
use Rattle.bridge_wire.specs.declared.wire_count.WireCount.{WireCount}
use Rattle.bridge_capture.specs.declared.fault.RunFault.TheVariants as run
use Rattle.bridge_wire.specs.Wire.{NamesPortOne, WiresText}
use Rattle.app_files.specs.declared.failed_file.Access.TheVariants.{Reading}
use Rattle.app_failure.specs.declared.fault.TextFault.{TextFault}
use Rattle.app_failure.specs.declared.fault.TextFault.TheVariants as text
use Rattle.app_failure.specs.declared.fault.Failure.{Failure}
use Rattle.app_failure.specs.declared.fault.Failure.TheVariants as fault
use Rattle.app_failure.specs.Reading.{IsStandardStreamFault}
use Rattle.app_commands.specs.Counts.{counts_line}
use Rattle.app_commands.specs.Text.{IsTextRun, StopsText}

-- HEXADECIMAL TEXT

-- Holds if the text encodes a capture, and `lines` is the output capture of its run as text.
abbrev pub PrintsText : List ℕ → List ℕ → Type 0
PrintsText input lines = (octets : List ℕ) × (spelled_octets input ≡ Ok octets) × IsTextRun octets lines

-- Holds if the fault ends the run of this hexadecimal text: a fault of the text, or of the run over its octets.
abbrev pub RefusesText : List ℕ → TextFault → Type 0
RefusesText input text.NotHex = spelled_octets input ≡ Err hex.NotHex
RefusesText input text.TooLong = spelled_octets input ≡ Err hex.TooLong
RefusesText input (text.Run f) = (f ≡ run.NoMemory) ⊎ ((octets : List ℕ) × (spelled_octets input ≡ Ok octets) × StopsText octets f)

-- Holds if the failure can end the run of this hexadecimal text on standard input.
abbrev pub EndsText : List ℕ → Failure → Type 0
EndsText input (fault.Text f) = RefusesText input f
EndsText input f = IsStandardStreamFault Reading f

-- A CAPTURE THROUGH ONE QUEUE

-- Holds if the text is a capture, the writer received the output capture, and `line` has the counts of the run.
abbrev pub PrintsCounts : Speed → ℕ → List ℕ → Option (List ℕ) → Option (List ℕ) → List ℕ → Type 0
PrintsCounts speed room input old new line = (count : WireCount) × WiresText speed room input old new count × (line ≡ counts_line count)

-- Holds if `line` has the counts of some run through one queue, and they add up.
abbrev pub IsCountsLine : List ℕ → Type 0
IsCountsLine line = (count : WireCount) × (count.malformed + count.sent + count.full ≡ count.frames) × (line ≡ counts_line count)

-- Holds if the failure can end a run over a capture with these contents: the capture is refused, a device failed, or
-- memory ran out.
abbrev pub EndsWire : List ℕ → Failure → Type 0
EndsWire input (fault.Run (run.Write port)) = port ≡ 1
EndsWire input (fault.Run f) = StopsText input f
EndsWire input fault.NoMemory = Unit {0}
EndsWire input f = ⊥

-- Holds if the failure concerns the only input or output capture, which is named as port 1, or if memory ran out.
abbrev pub IsOfRun : Failure → Type 0
IsOfRun (fault.Run f) = NamesPortOne f
IsOfRun fault.NoMemory = Unit {0}
IsOfRun f = ⊥
