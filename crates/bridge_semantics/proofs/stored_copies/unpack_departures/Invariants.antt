use Rattle.std.proofs.Common.{◌≡◌, take}
use Rattle.bridge_semantics.proofs.stored_copies.unpack_departures.Given as goal

abbrev pub invariant-loop-departure : goal.invariant-loop-departure
invariant-loop-departure g l = l.departures.items ≡ take l.departure-index l.stored
