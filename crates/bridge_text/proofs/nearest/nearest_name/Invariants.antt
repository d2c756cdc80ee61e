use Rattle.std.proofs.Common.{Contains}
use Rattle.std.specs.Option.{ForSome}
use Rattle.bridge_text.proofs.nearest.nearest_name.Given as goal

abbrev pub invariant-loop-name : goal.invariant-loop-name
invariant-loop-name l = ForSome l.found (Contains l.names)
