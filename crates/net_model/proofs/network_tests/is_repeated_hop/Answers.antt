use Rattle.std.proofs.Common.{refl}
use contract.BorrowLft.{⊑_static}
use Rattle.net_model.proofs.network_tests.is_repeated_hop.Goals as goal

pub bounds-streams-stream-index : goal.bounds-streams-stream-index
bounds-streams-stream-index g c = c.loop-stream-test.true

pub as_slice-requires : goal.as_slice-requires
as_slice-requires g c κs h = (⊑_static _, h)

pub offset_bounds-streams-stream-index : goal.offset_bounds-streams-stream-index
offset_bounds-streams-stream-index g c = c.loop-stream.auto.stream-index-end

pub loop-stream-init : goal.loop-stream-init
loop-stream-init g c = refl
