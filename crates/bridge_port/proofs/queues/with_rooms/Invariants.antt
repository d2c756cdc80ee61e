use Rattle.std.proofs.Common.{◌≡◌, [], replicate, take}
use Rattle.bridge_port.specs.Rings.{ring_queues, ring_rooms}
use Rattle.bridge_port.proofs.queues.with_rooms.Given as goal

abbrev pub invariant-loop-room : goal.invariant-loop-room
invariant-loop-room g l = record {
  queues : ring_queues l.rings.items ≡ replicate l.room-index [];
  rooms : ring_rooms l.rings.items ≡ take l.room-index l.rooms;
}
