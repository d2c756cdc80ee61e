use Rattle.std.proofs.Common.{◌≡◌, drop}
use Rattle.net_latency.specs.Entering.{is_talker_port}
use Rattle.net_latency.proofs.entering.is_talker_port.Given as goal

abbrev pub invariant-loop-on : goal.invariant-loop-on
invariant-loop-on g l =
    is_talker_port l.links l.bridge l.plan l.handle (drop l.on-index l.plan.ports) l.port ≡ is_talker_port l.links l.bridge l.plan l.handle l.plan.ports l.port
