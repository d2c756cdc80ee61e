use Rattle.std.proofs.Common.{◌≡◌, ◌++◌}
use Rattle.net_run.specs.BridgeRuns.{sink_octets}
use Rattle.net_run.proofs.input_capture.share_captures.Given as goal

abbrev pub invariant-loop-sink : goal.invariant-loop-sink
invariant-loop-sink g l = sink_octets l.taps.items ++ sink_octets l.sink-iterator.rest.items ≡ sink_octets l.fn.sinks.items
