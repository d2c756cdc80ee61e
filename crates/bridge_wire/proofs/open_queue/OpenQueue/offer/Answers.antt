use Rattle.std.proofs.Common.{◌+◌, take, length, subst, arith}
use Rattle.bridge_wire.proofs.Rings.{ring_more, ring_offered, stored_some, queued_length}
use Rattle.bridge_wire.proofs.Queues.{moved_in, short_more}
use Rattle.bridge_wire.specs.Rings.{IsRing, ring_items}
use Rattle.bridge_wire.proofs.open_queue.OpenQueue.offer.Goals as goal

pub invariant_of-self-2 : goal.invariant_of-self-2
invariant_of-self-2 g c =
    let q = c.args.self.now in
    let next = rw c.len-2.ensures at c.next_index-self.ensures.next in
    let below = c.if-self-len.false in
    let len = c.len.ensures in
    let counted = q.counted in
    let few = c.requires.few in
    let time = c.requires.time in
    let r : IsRing (length q.places.items) q.head q.tail q.queued = subst (λ n. IsRing n q.head q.tail q.queued) q.places.ok.0 q.ring in
    let there = stored_some q.places.items q.tail r.to in
    record {
      ring = ring_offered _ q.head q.tail q.queued c.next_index-self.result q.ring (omega arith) next;
      short = short_more (take q.queued (ring_items q.head q.places.items)) _ there.0 (ring_more q.places.items q.head q.tail q.queued there.0 r there.1) q.short (c.requires.length there.0 there.1);
      freed = q.freed;
      met = omega (arith, time);
      counted = omega (arith, counted);
      few = omega (arith, few);
    }

pub returns-clause-moved : goal.returns-clause-moved
returns-clause-moved g c = λ x e.
    let q = c.args.self.now in
    let r : IsRing (length q.places.items) q.head q.tail q.queued = subst (λ n. IsRing n q.head q.tail q.queued) q.places.ok.0 q.ring in
    let below = c.if-self-len.false in
    let len = c.len.ensures in
    let same = q.places.ok.0 in
    let count = queued_length q.places.items q.head q.tail q.queued r in
    moved_in q.speed (length q.places.items) (take q.queued (ring_items q.head q.places.items)) (take (q.queued + 1) (ring_items q.head q.places.items)) q.free q.earliest q.offered q.started c.args.t x (ring_more q.places.items q.head q.tail q.queued x r e) (omega (arith, below, len, same, count))
