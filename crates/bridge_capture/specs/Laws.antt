-- Laws of the capture format: a written capture is read as its frames, and file contents are a capture in exactly one
-- way.
use Rattle.std.specs.Prelude.{◌≡◌, ℕ, List}
use Rattle.bridge_capture.specs.Grammar.{CapturedFrame, CaptureEnding, AtEnd, IsCapture}
use Rattle.bridge_capture.specs.WrittenCapture.{written_text, AreWritable}

-- Holds if a written capture of writable frames is read as exactly these frames.
abbrev pub WrittenIsRead : Type 0
WrittenIsRead = (frames : List CapturedFrame) → AreWritable 1 0 frames → IsCapture (written_text frames) frames AtEnd

-- Holds if the file contents are a capture in exactly one way: one list of frames and one ending.
abbrev pub ReadsOneWay : List ℕ → Type 0
ReadsOneWay text = ((frames : List CapturedFrame) × (ending : CaptureEnding) × IsCapture text frames ending) × ((xs ys : List CapturedFrame) (e f : CaptureEnding) → IsCapture text xs e → IsCapture text ys f → (xs ≡ ys) × (e ≡ f))
