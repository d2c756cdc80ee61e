use Rattle.std.proofs.Common.{◌≡◌, drop}
use Rattle.bridge_config.specs.Rules.{find_port}
use Rattle.bridge_config.proofs.plan.find_port.Given as goal

abbrev pub invariant-loop-port : goal.invariant-loop-port
invariant-loop-port g l = find_port (drop l.port-index l.ports) l.number ≡ find_port l.ports l.number
