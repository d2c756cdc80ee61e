-- Queues of an egress port and their capacities, as contracts see them.
use Rattle.std.specs.Prelude.{ℕ, List, map}
use Rattle.circular_buffer.specs.Buffer.{Buffer}
use Rattle.bridge_port.specs.declared.item.Item.{Item}

-- Queued items of each class of the port, the oldest first.
abbrev pub ring_queues : {T : Type 0} → List (Buffer (Item T)) → List (List (Item T))
ring_queues rings = map (λ ring. ring.items) rings

-- Queue capacity in frames of each class of the port.
abbrev pub ring_rooms : {T : Type 0} → List (Buffer (Item T)) → List ℕ
ring_rooms rings = map (λ ring. ring.capacity) rings
