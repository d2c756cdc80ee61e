use Rattle.std.proofs.Common.{◌≡◌, take}
use Rattle.bridge_semantics.proofs.stored_copies.unpack_drops.Given as goal

abbrev pub invariant-loop-dropped : goal.invariant-loop-dropped
invariant-loop-dropped g l = l.drops.items ≡ take l.dropped-index l.stored
