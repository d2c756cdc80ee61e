use Rattle.std.proofs.Common.{◌≡◌, drop}
use Rattle.net_run.specs.BridgeRuns.{sink_octets, text_of_port}
use Rattle.net_run.proofs.bridge_run.find_port_capture.Given as goal

abbrev pub invariant-loop-place : goal.invariant-loop-place
invariant-loop-place g l = text_of_port (drop l.place l.ports) (drop l.place (sink_octets l.taps)) l.port ≡ text_of_port l.ports (sink_octets l.taps) l.port
