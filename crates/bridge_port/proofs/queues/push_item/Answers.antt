use Rattle.std.proofs.Common.{◌<◌, length, rules}
use Rattle.std.proofs.Common.{◌++◌, [], ◌∷◌}
use Rattle.bridge_port.proofs.Rings.{queues_set, rooms_set, items_at}
use Rattle.bridge_port.proofs.queues.push_item.Goals as goal

pub returns-clause-queues : goal.returns-clause-queues
returns-clause-queues g c =
    let rings = c.args.rings.now.items in
    let old = c.index_mut-ring.result.now in
    let below : c.args.class < length rings = search rules in
    rw (items_at rings c.args.class old below c.index_mut-ring.ensures.value) (queues_set rings c.args.class old c.try_push_back.new.self (old.items ++ c.args.item ∷ []) c.in-Ok.ensures.ok)

pub returns-clause-rooms : goal.returns-clause-rooms
returns-clause-rooms g c =
    let old = c.index_mut-ring.result.now in
    rooms_set c.args.rings.now.items c.args.class old c.try_push_back.new.self (old.items ++ c.args.item ∷ []) c.index_mut-ring.ensures.value c.in-Ok.ensures.ok
