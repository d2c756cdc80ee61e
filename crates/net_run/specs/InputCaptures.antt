-- Input captures of ports: octets, or the capture that the sender sent, with the delay of the link.
use Rattle.std.specs.Prelude.{ℕ, List, [], Option, Some, None}
use Rattle.bridge_capture.specs.Memory.{MemoryDevice}
use Rattle.net_run.specs.DelayedCapture.{delayed_text}

-- The octets of a port's input capture: with a sender, the octets `sent` by it, delayed by `delay` ns; otherwise the
-- port's own octets.
abbrev pub input_octets : List ℕ → Option MemoryDevice → ℕ → List ℕ
input_octets octets None delay = octets
input_octets octets (Some sent) delay = delayed_text delay sent.octets

-- The octets of an optional sent capture; empty if there is no capture.
abbrev pub sent_octets : Option MemoryDevice → List ℕ
sent_octets None = []
sent_octets (Some sent) = sent.octets
