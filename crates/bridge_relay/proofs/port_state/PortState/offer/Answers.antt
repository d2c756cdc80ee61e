use Rattle.std.proofs.Common.{ap, sym, Some, None}
use Rattle.bridge_relay.specs.PortStates.{refusal_result}
use Rattle.bridge_relay.proofs.OfferedSlots.{moved_by, queued_none, refused_some}
use Rattle.bridge_relay.proofs.Rooms.{dropped_fits, sent_fits}
use Rattle.bridge_relay.proofs.port_state.PortState.offer.Goals as goal

pub offer-requires-clause-class : goal.offer-requires-clause-class
offer-requires-clause-class g c = c.requires.class

pub offer-requires-clause-time : goal.offer-requires-clause-time
offer-requires-clause-time g c = c.requires.time

pub offer-requires-clause-not_late : goal.offer-requires-clause-not_late
offer-requires-clause-not_late g c = c.requires.not_late

pub offer-requires-clause-length : goal.offer-requires-clause-length
offer-requires-clause-length g c = c.requires.length

pub offer-requires-clause-few : goal.offer-requires-clause-few
offer-requires-clause-few g c = c.requires.few

pub overflow_add-self : goal.overflow_add-self
overflow_add-self g c = record { fits = sent_fits _ _ _ c.requires.counted c.requires.few }

pub overflow_add-self-in-Err : goal.overflow_add-self-in-Err
overflow_add-self-in-Err g c = record { fits = dropped_fits _ _ _ c.requires.counted c.requires.few }

pub returns-in-Ok-clause-moved : goal.returns-in-Ok-clause-moved
returns-in-Ok-clause-moved g c =
    let f = c.offer.ensures in
    moved_by c.args.self.now c.offer.new.self c.args.t _ c.args.item None (queued_none _ c.args.item c.offer.result c.in-Ok.is f.answer) f.moved

pub returns-in-Ok-clause-answer : goal.returns-in-Ok-clause-answer
returns-in-Ok-clause-answer g c = ap refusal_result (sym (queued_none _ c.args.item c.offer.result c.in-Ok.is c.offer.ensures.answer))

pub returns-in-Ok-clause-stands : goal.returns-in-Ok-clause-stands
returns-in-Ok-clause-stands g c = λ xs st. c.offer.ensures.stands xs st

pub returns-in-Ok-clause-counts : goal.returns-in-Ok-clause-counts
returns-in-Ok-clause-counts g c = λ f. c.offer.ensures.counts f

pub returns-in-Err-clause-moved : goal.returns-in-Err-clause-moved
returns-in-Err-clause-moved g c =
    let f = c.offer.ensures in
    moved_by c.args.self.now c.offer.new.self c.args.t _ c.args.item (Some c.in-Err.refusal) (refused_some _ c.args.item c.in-Err.item c.in-Err.refusal c.offer.result c.in-Err.is f.answer) f.moved

pub returns-in-Err-clause-answer : goal.returns-in-Err-clause-answer
returns-in-Err-clause-answer g c = ap refusal_result (sym (refused_some _ c.args.item c.in-Err.item c.in-Err.refusal c.offer.result c.in-Err.is c.offer.ensures.answer))

pub returns-in-Err-clause-stands : goal.returns-in-Err-clause-stands
returns-in-Err-clause-stands g c = λ xs st. c.offer.ensures.stands xs st

pub returns-in-Err-clause-counts : goal.returns-in-Err-clause-counts
returns-in-Err-clause-counts g c = λ f. c.offer.ensures.counts f
