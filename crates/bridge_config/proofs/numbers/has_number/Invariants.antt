use Rattle.std.proofs.Common.{◌≡◌, drop}
use Rattle.bridge_config.specs.Sections.{has_number}
use Rattle.bridge_config.proofs.numbers.has_number.Given as goal

abbrev pub invariant-loop-instance : goal.invariant-loop-instance
invariant-loop-instance g l = has_number (drop l.instance-index l.instances) l.number ≡ has_number l.instances l.number
