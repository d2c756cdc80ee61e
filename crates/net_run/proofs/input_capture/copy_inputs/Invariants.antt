use Rattle.std.proofs.Common.{◌≡◌, take}
use Rattle.net_run.specs.BridgeRuns.{text_octets}
use Rattle.net_run.proofs.input_capture.copy_inputs.Given as goal

abbrev pub invariant-loop-input : goal.invariant-loop-input
invariant-loop-input g l = text_octets l.texts.items ≡ take l.input-index l.inputs
