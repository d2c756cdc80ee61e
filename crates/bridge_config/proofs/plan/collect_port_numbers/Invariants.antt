use Rattle.std.proofs.Common.{◌≡◌, map, take}
use Rattle.bridge_config.proofs.plan.collect_port_numbers.Given as goal

abbrev pub invariant-loop-port : goal.invariant-loop-port
invariant-loop-port g l = l.numbers.items ≡ map (λ p. p.number) (take l.port-index l.ports)
