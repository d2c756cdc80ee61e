-- Ring of places, and the state of a port with one queue in this ring.
use Rattle.std.specs.Prelude.{◌≡◌, ℕ, ◌+◌, ◌-◌, ◌<◌, nat_lt, if◌then◌else◌, List, [], ◌∷◌, ◌++◌, take, drop}
use Rattle.bridge_frame.specs.declared.Speed.{Speed}
use Rattle.bridge_port.specs.declared.item.Item.{Item}
use Rattle.bridge_port.specs.GateSchedule.{Always}
use Rattle.bridge_port.specs.StandsFor.{EgressState}

-- Items of a ring, the oldest first; the oldest has index `head`.
abbrev pub ring_items : {X : Type 0} → ℕ → List X → List X
ring_items head places = drop head places ++ take head places

-- State of a port with this queue as class 0. The other classes have one place each, and are empty.
abbrev pub one_queue_state : {T : Type 0} → Speed → ℕ → List (Item T) → ℕ → ℕ → ℕ → ℕ → EgressState T
one_queue_state speed room items free earliest offered started = record {
  speed = speed;
  list = Always;
  rooms = room ∷ 1 ∷ 1 ∷ 1 ∷ 1 ∷ 1 ∷ 1 ∷ 1 ∷ [];
  queues = items ∷ [] ∷ [] ∷ [] ∷ [] ∷ [] ∷ [] ∷ [] ∷ [];
  free = free;
  earliest = earliest;
  offered = offered;
  started = started;
}

-- Holds if index `tail` is `queued` places after index `head` in a ring of `count` places, and at least one place is
-- free.
pub record IsRing (count head tail queued : ℕ) : Type 0 where
  pub from : head < count
  pub to : tail < count
  pub some : queued < count
  pub turns : tail ≡ (if nat_lt (head + queued) count then head + queued else head + queued - count)
