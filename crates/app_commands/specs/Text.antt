-- A run of one queue whose captures are hexadecimal text, given on standard input and printed on standard output.
use Rattle.std.specs.Prelude.{◌≡◌, ℕ, List}
use Rattle.bridge_frame.specs.declared.Speed.TheVariants.{Mbps1000}
use Rattle.bridge_capture.specs.declared.capture_fault.CaptureFault.{CaptureFault}
use Rattle.bridge_capture.specs.declared.capture_fault.CaptureFault.TheVariants as faults
use Rattle.bridge_capture.specs.Grammar.{CapturedFrame, IsCapture, AtEnd, AtFault}
use Rattle.bridge_capture.specs.declared.hex_fault.HexFault.{HexFault}
use Rattle.bridge_capture.specs.declared.hex_fault.HexFault.TheVariants as hex
use Rattle.bridge_capture.specs.HexLines.{hex_text}
use Rattle.bridge_wire.specs.declared.wire_count.WireCount.{WireCount}
use Rattle.bridge_capture.specs.declared.fault.RunFault.{RunFault}
use Rattle.bridge_capture.specs.declared.fault.RunFault.TheVariants as run
use Rattle.bridge_wire.specs.Wire.{IsWireRun, EndsOrContinues}
use Rattle.app_failure.specs.declared.fault.TextFault.{TextFault}
use Rattle.app_failure.specs.declared.fault.TextFault.TheVariants as fault

-- The fault of a text that isn't hexadecimal or is too long.
abbrev pub text_fault : HexFault → TextFault
text_fault hex.NotHex = fault.NotHex
text_fault hex.TooLong = fault.TooLong
text_fault hex.NoMemory = fault.Run run.NoMemory

-- Holds if the octets are a complete capture, and `lines` is the output of one queue of 4 frames at 1,000 Mb/s as hexadecimal text.
pub record IsTextRun (octets lines : List ℕ) : Type 0 where
  pub frames : List CapturedFrame
  pub left : List CapturedFrame
  pub count : WireCount
  pub reads : IsCapture octets frames AtEnd
  pub runs : IsWireRun Mbps1000 4 frames left count
  pub lines_are : lines ≡ hex_text left

-- Holds if the octets have fault `f` of a capture. A read fault is always possible.
abbrev pub HasFault : CaptureFault → List ℕ → Type 0
HasFault faults.Read octets = Unit {0}
HasFault f octets = (frames : List CapturedFrame) × IsCapture octets frames (AtFault f)

-- Holds if the octets of a capture begin with some frames, after which they end or another frame follows. A write can
-- fail there.
abbrev pub LooksOn : List ℕ → Type 0
LooksOn octets = (frames : List CapturedFrame) × (moment : ℕ) × EndsOrContinues moment octets frames

-- Holds if the fault stopped a run over these octets: a fault of the octets, a failed write before it, or out of memory.
abbrev pub StopsText : List ℕ → RunFault → Type 0
StopsText octets (run.Capture port f) = (port ≡ 1) × HasFault f octets
StopsText octets (run.Write port) = (port ≡ 1) × LooksOn octets
StopsText octets run.NoMemory = Unit {0}
