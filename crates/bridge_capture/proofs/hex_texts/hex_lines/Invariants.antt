use Rattle.std.proofs.Common.{length}
use Rattle.std.specs.String.{string_bytes}
use Rattle.bridge_capture.proofs.Records.{LinesSoFar}
use Rattle.bridge_capture.proofs.hex_texts.hex_lines.Given as goal

abbrev pub invariant-loop-rest : goal.invariant-loop-rest
invariant-loop-rest g l = LinesSoFar l.fn.capture (string_bytes l.text) l.rest

abbrev pub decreases-loop-rest : goal.decreases-loop-rest
decreases-loop-rest g l = length l.rest
