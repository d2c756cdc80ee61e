-- Rings of a port as contracts see them.
use Rattle.std.proofs.Common.{◌≡◌, ◌<◌, ℕ, [], List, length, ap, sym, ◌∙◌}
use Rattle.std.specs.Prelude.{slice_set, slice_index_or}
use Rattle.std.proofs.lemmas.List.{map-set, get_or-map}
use Rattle.std.proofs.Math.Seq.{map-set_same}
use Rattle.circular_buffer.specs.Buffer.{Buffer, buffer}
use Rattle.bridge_port.specs.declared.item.Item.{Item}
use Rattle.bridge_port.specs.Rings.{ring_queues, ring_rooms}

-- Replaces the ring of a class by a ring with other items.
pub queues_set : {T : Type 0} (rings : List (Buffer (Item T))) (c : ℕ) (old new : Buffer (Item T)) (items : List (Item T)) → new ≡ buffer items old.capacity → ring_queues (slice_set rings c new) ≡ slice_set (ring_queues rings) c items
queues_set rings c old new items e = map-set (λ ring. ring.items) rings c new ∙ ap (λ ring. slice_set (ring_queues rings) c ring.items) e

pub rooms_set : {T : Type 0} (rings : List (Buffer (Item T))) (c : ℕ) (old new : Buffer (Item T)) (items : List (Item T)) → old ≡ slice_index_or rings c old → new ≡ buffer items old.capacity → ring_rooms (slice_set rings c new) ≡ ring_rooms rings
rooms_set rings c old new items is e = map-set_same (λ ring. ring.capacity) rings c new old (ap (λ ring. ring.capacity) e ∙ ap (λ ring. ring.capacity) is)

-- The items of a ring are the queue of its class.
pub items_at : {T : Type 0} (rings : List (Buffer (Item T))) (c : ℕ) (old : Buffer (Item T)) → c < length rings → old ≡ slice_index_or rings c old → slice_index_or (ring_queues rings) c [] ≡ old.items
items_at rings c old l is = get_or-map (λ ring. ring.items) rings c old [] l ∙ ap (λ ring. ring.items) (sym is)
