use Rattle.std.proofs.Common.{◌≡◌, drop, map}
use Rattle.bridge_schema.specs.Readers.{add_to_set}
use Rattle.bridge_config.specs.Rules.{port_set}
use Rattle.bridge_config.proofs.plan.port_set.Given as goal

abbrev pub invariant-ports : goal.invariant-ports
invariant-ports g l = add_to_set 1 l.bits (map (λ p. p.number) (drop l.port-index l.ports)) ≡ port_set l.ports
