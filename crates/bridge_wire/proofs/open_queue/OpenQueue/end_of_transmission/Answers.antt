use Rattle.std.proofs.Common.{◌≤◌, arith}
use Rattle.bridge_limits.specs.declared.TheConstants.{LONGEST_FRAME}
use Rattle.bridge_wire.proofs.Queues.{oldest_of_all}
use Rattle.bridge_wire.proofs.open_queue.OpenQueue.end_of_transmission.Goals as goal

pub overflow_add-result : goal.overflow_add-result
overflow_add-result g c =
    let q = c.args.self.now in
    let due = c.requires.due in
    let freed = q.freed in
    let met = q.met in
    let counted = q.counted in
    let few = q.few in
    let bounded = c.occupation.ensures.bounded (oldest_of_all (λ x. x.len ≤ LONGEST_FRAME) _ _ c.oldest.ensures q.short) in
    omega (arith, due, freed, met, counted, few, bounded)

pub returns-clause-soon : goal.returns-clause-soon
returns-clause-soon g c =
    let bounded = c.occupation.ensures.bounded (oldest_of_all (λ x. x.len ≤ LONGEST_FRAME) _ _ c.oldest.ensures c.args.self.now.short) in
    omega (arith, bounded)

pub returns-clause-early : goal.returns-clause-early
returns-clause-early g c =
    let q = c.args.self.now in
    let due = c.requires.due in
    let freed = q.freed in
    let met = q.met in
    let counted = q.counted in
    let few = q.few in
    let some = c.requires.some in
    let bounded = c.occupation.ensures.bounded (oldest_of_all (λ x. x.len ≤ LONGEST_FRAME) _ _ c.oldest.ensures q.short) in
    omega (arith, due, freed, met, counted, few, some, bounded)
