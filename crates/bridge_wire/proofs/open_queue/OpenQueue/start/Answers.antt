use Rattle.std.proofs.Common.{length, subst, arith, refl}
use Rattle.bridge_wire.proofs.Queues.{short_after}
use Rattle.bridge_wire.proofs.Rings.{ring_next, ring_started}
use Rattle.bridge_wire.specs.Rings.{IsRing}
use Rattle.bridge_wire.proofs.open_queue.OpenQueue.start.Goals as goal

pub overflow_add-self : goal.overflow_add-self
overflow_add-self g c =
    let q = c.args.self.now in
    let due = c.requires.due in
    let freed = q.freed in
    let met = q.met in
    let counted = q.counted in
    let few = q.few in
    omega (arith, due, freed, met, counted, few)

pub invariant_of-self : goal.invariant_of-self
invariant_of-self g c =
    let q = c.args.self.now in
    let some = c.requires.some in
    let due = c.requires.due in
    let soon = c.requires.soon in
    let freed = q.freed in
    let met = q.met in
    let counted = q.counted in
    let next = rw c.len.ensures at c.next_index-self.ensures.next in
    let r : IsRing (length q.places.items) q.head q.tail q.queued = subst (λ n. IsRing n q.head q.tail q.queued) q.places.ok.0 q.ring in
    let inside = r.some in
    let later = ring_next q.places.items q.head q.queued c.next_index-self.result r.from some (omega arith) (rw q.places.ok.0 at next) in
    record {
      ring = ring_started _ q.head q.tail q.queued c.next_index-self.result q.ring some next;
      short = short_after _ _ later q.short;
      freed = omega (arith, due, soon, freed, met);
      met = omega (arith, due, freed, met);
      counted = omega (arith, some, counted);
      few = q.few;
    }

pub returns-clause-moved : goal.returns-clause-moved
returns-clause-moved g c = λ x e.
    let q = c.args.self.now in
    let next = rw c.len.ensures at c.next_index-self.ensures.next in
    let r : IsRing (length q.places.items) q.head q.tail q.queued = subst (λ n. IsRing n q.head q.tail q.queued) q.places.ok.0 q.ring in
    let inside = r.some in
    let later = ring_next q.places.items q.head q.queued c.next_index-self.result r.from c.requires.some (omega arith) (rw q.places.ok.0 at next) in
    rw (later, c.requires.end x e) refl
