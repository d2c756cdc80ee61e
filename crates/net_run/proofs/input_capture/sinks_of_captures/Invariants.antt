use Rattle.std.proofs.Common.{◌≡◌, ◌++◌}
use Rattle.net_run.specs.BridgeRuns.{sink_octets}
use Rattle.net_run.proofs.input_capture.sinks_of_captures.Given as goal

abbrev pub invariant-loop-tap : goal.invariant-loop-tap
invariant-loop-tap g l = sink_octets l.sinks.items ++ sink_octets l.tap-iterator.rest.items ≡ sink_octets l.fn.taps.items
