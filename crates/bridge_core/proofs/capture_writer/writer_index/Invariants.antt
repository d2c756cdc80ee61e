use Rattle.bridge_core.specs.CaptureWriters.{writer_ports}
use Rattle.bridge_core.proofs.Written.{NoneBefore}
use Rattle.bridge_core.proofs.capture_writer.writer_index.Given as goal

abbrev pub invariant-loop-place : goal.invariant-loop-place
invariant-loop-place l = NoneBefore (writer_ports l.lines) l.port l.place
