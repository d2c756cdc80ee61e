use Rattle.std.proofs.Common.{rules, ◌∙◌}
use Rattle.std.proofs.lemmas.List.{take_more, take_all}
use Rattle.bridge_relay.proofs.Rooms.{few_more, none_few, room_kept, room_left}
use Rattle.bridge_relay.proofs.new_relay.copy_gates.Goals as goal

pub loop-gate-init : goal.loop-gate-init
loop-gate-init g c =
    let made = c.in-Ok.ensures in
    record { copies = made.items; few = none_few _ made.len; room = made.capacity }

pub push_reserved-requires : goal.push_reserved-requires
push_reserved-requires g c =
    let was = c.loop-gate.invariant in
    room_left _ c.loop-gate.gate-index _ _ was.few c.loop-gate-test.true was.room

pub loop-gate-preserved : goal.loop-gate-preserved
loop-gate-preserved g c =
    let was = c.loop-gate.invariant in
    let is = c.push_reserved.ensures in
    let more = take_more c.args.gates.now c.loop-gate.gate-index c.gate-item.result c.loop-gate-test.true in
    record {
      copies = search (rules, more, was.copies, c.gate-item.is, c.in-Ok-copy.ensures.equal, is.items);
      few = few_more _ _ c.loop-gate.gate-index was.few is.len;
      room = room_kept _ _ _ was.room is.capacity;
    }

pub bounds-gates-gate-index : goal.bounds-gates-gate-index
bounds-gates-gate-index g c = c.loop-gate-test.true

pub returns : goal.returns
returns g c = c.loop-gate.invariant.copies ∙ take_all c.loop-gate.gate-index c.args.gates.now c.loop-gate-test.false
