-- Output captures that are flushed after a run.
use Rattle.std.specs.Prelude.{◌≡◌, ℕ, Bool, false, ◌⊎◌, Option, List, [], ◌∷◌}
use Rattle.std.specs.Io.KnownBytes.{Keeps}
use Rattle.bridge_config.specs.declared.command.Command.{Command}
use Rattle.bridge_config.specs.Model.{Plan}
use Rattle.bridge_capture.specs.declared.fault.RunFault.{RunFault}
use Rattle.bridge_capture.specs.declared.fault.RunFault.TheVariants as run
use Rattle.bridge_capture.specs.CaptureReaders.{FailsToBegin, FailsAtPort}
use Rattle.bridge_core.specs.WholeRuns.{HaveSoundStarts}
use Rattle.bridge_core.specs.Running.{IsCaptureFault, StopsInCommands}

-- Holds if both lists have equal length, and devices with equal index have equal known contents.
abbrev pub AllKept : {V W : Type 0} → (V → Option (List ℕ)) → (W → Option (List ℕ)) → List V → List W → Type 0
AllKept f g [] [] = Unit {0}
AllKept f g [] (w ∷ ws) = ⊥
AllKept f g (v ∷ vs) [] = ⊥
AllKept f g (v ∷ vs) (w ∷ ws) = Keeps (f v) (g w) × AllKept f g vs ws

-- Holds if no output device in the list has failed.
abbrev pub NoneFailed : {V : Type 0} → (V → Bool) → List V → Type 0
NoneFailed has_failed [] = Unit {0}
NoneFailed has_failed (v ∷ vs) = (has_failed v ≡ false) × NoneFailed has_failed vs

-- Holds if a run whose outputs are all flushed stopped with this fault: before any output, or under way with all departures written. Each
-- source has the rest `rests` of its capture.
abbrev pub StopsFlushed : {A W : Type 0} → Plan A → List ℕ → List Command → (ℕ → List ℕ) → (ℕ → Option (List ℕ)) → (W → Option (List ℕ)) → List W → List W → RunFault → Type 0
StopsFlushed p ports commands texts rests contents olds news (run.Capture port fault) =
    (IsCaptureFault fault × FailsAtPort texts rests ports port fault × AllKept contents contents olds news)
    ⊎ StopsInCommands p texts rests commands contents ports olds news (run.Capture port fault)
StopsFlushed p ports commands texts rests contents olds news (run.Write port) = ⊥
StopsFlushed p ports commands texts rests contents olds news run.NoMemory =
    ((FailsToBegin texts rests ports run.NoMemory ⊎ HaveSoundStarts p texts) × AllKept contents contents olds news)
    ⊎ StopsInCommands p texts rests commands contents ports olds news run.NoMemory

-- Holds if an output is lost with this fault: the flush of port `port` failed, or memory for the buffers ran out before any read.
abbrev pub LosesOutput : ℕ → ℕ → RunFault → Type 0
LosesOutput port count (run.Capture q fault) = ⊥
LosesOutput port count (run.Write q) = q ≡ port
LosesOutput port count run.NoMemory = count ≡ 0
