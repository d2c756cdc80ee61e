-- Files that a network run writes: captures and reports of its bridges.
use Rattle.std.specs.Prelude.{ℕ, List, [], ◌∷◌, ◌++◌, Option, codes}
use Rattle.std.specs.Io.KnownBytes.{Appends}
use Rattle.bridge_capture.specs.Memory.{MemoryDevice}
use Rattle.bridge_report.specs.Section.{report_text}
use Rattle.net_run.specs.declared.rounds.BridgeResult.{BridgeResult}
use Rattle.app_files.specs.declared.output.Output.{Output}
use Rattle.app_networks.specs.declared.outputs.BridgeOutputs.{BridgeOutputs}

-- The path of the folder of bridge `name` in the input or output folder.
abbrev pub folder_path : List ℕ → List ℕ → List ℕ
folder_path folder name = folder ++ (codes "/" ++ name)

-- Holds if the three lists have equal length, and `R old source new` holds at each index: `old` became `new` by writing
-- `source`.
abbrev pub AreWrittenBy : {O S : Type 0} → (O → S → O → Type 0) → List O → List S → List O → Type 0
AreWrittenBy R [] sources [] = Unit {0}
AreWrittenBy R (old ∷ olds) (source ∷ sources) (new ∷ news) = R old source new × AreWrittenBy R olds sources news
AreWrittenBy R olds sources news = ⊥

-- Holds if the octets of a capture were appended to a file.
abbrev pub IsTapWritten : {W : Type 0} → (W → Option (List ℕ)) → W → MemoryDevice → W → Type 0
IsTapWritten contents old tap new = Appends (contents old) (contents new) tap.octets

-- Holds if each output capture of a bridge received the capture of its port, and the bridge's report file received the
-- report.
abbrev pub IsBridgeWritten : {F A : Type 0} → (Output F → Option (List ℕ)) → BridgeOutputs F → BridgeResult A → BridgeOutputs F → Type 0
IsBridgeWritten contents old settled new =
    AreWrittenBy (IsTapWritten contents) old.taps.items settled.taps.items new.taps.items
    × Appends (contents old.report) (contents new.report) (report_text settled.outcome.filters.items)
