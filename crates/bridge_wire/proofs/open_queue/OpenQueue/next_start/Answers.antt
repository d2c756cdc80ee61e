use Rattle.std.proofs.Common.{ℕ, take, sym, subst, arith, length-take, Vec}
use Rattle.bridge_port.specs.declared.item.Item.{Item}
use Rattle.bridge_port.specs.StandsFor.{IsNextStart}
use Rattle.bridge_wire.specs.OpenQueues.{queue_state}
use Rattle.bridge_wire.specs.Rings.{ring_items}
use Rattle.bridge_wire.proofs.Queues.{has_next}
use Rattle.bridge_wire.proofs.Rings.{ring_length}
use Rattle.bridge_wire.proofs.open_queue.OpenQueue.next_start.Goals as goal

pub returns-clause-due : goal.returns-clause-due
returns-clause-due g c =
    let q = c.args.self.now in
    let from = q.ring.from in
    let some = q.ring.some in
    let n = ring_length q.head q.places.items (omega arith) in
    let m = length-take q.queued (ring_items q.head q.places.items) in
    let positive = c.if-self-eq0.false in
    subst (λ (k : ℕ). (d : ℕ) × (x : Item (Vec ℕ _)) × IsNextStart (queue_state q) k d x) (sym c.max.ensures)
    (has_next q.speed _ (take q.queued (ring_items q.head q.places.items)) q.free q.earliest q.offered q.started (omega (arith, n, m, some, positive)))
