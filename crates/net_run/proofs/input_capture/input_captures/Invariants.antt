use Rattle.std.proofs.Common.{◌≡◌, ◌++◌}
use Rattle.net_run.specs.BridgeRuns.{text_octets}
use Rattle.net_run.proofs.input_capture.input_captures.Given as goal

abbrev pub invariant-loop-text : goal.invariant-loop-text
invariant-loop-text g l = l.inputs.items ++ text_octets l.text-iterator.rest.items ≡ text_octets l.fn.texts.items
