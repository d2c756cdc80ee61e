use Rattle.std.proofs.Common.{ℕ, ◌<◌, ◌∙◌, ap, sym, subst, Option}
use Rattle.std.specs.Prelude.{IfSome}
use Rattle.std.proofs.lemmas.Option.{same_Some}
use Rattle.bridge_relay.specs.Recorders.{OwesCopy, RecorderState, update_if_some, with_departure}
use Rattle.bridge_relay.proofs.Changing.{change_at, own_at, place_within, there_by}
use Rattle.bridge_relay.proofs.filter_recorders.record_departure.Goals as goal

pub record_departure-requires : goal.record_departure-requires
record_departure-requires g c =
    let at = c.pair_mut-table in
    let m = c.args.tables.now in
    let owes = subst (λ (o : Option ℕ). IfSome o (OwesCopy m.entries)) c.in-Some.is c.requires in
    let found = own_at m c.recorder_index_by_hint-place.result at.result.0.now c.in-Some.number at.result.1.now at.ensures.unique at.ensures.value c.recorder_index_by_hint-place.ensures in
    subst (λ (t : RecorderState). 0 < t.owed) (same_Some owes.0 at.result.1.now (sym owes.1 ∙ found)) owes.2

pub returns-in-Some : goal.returns-in-Some
returns-in-Some g c =
    let at = c.pair_mut-table in
    let m = c.args.tables.now in
    let f : RecorderState → RecorderState = λ t. with_departure t c.args.departure c.args.delay in
    change_at m c.recorder_index_by_hint-place.result at.result.0.now c.in-Some.number f at.result.1.now c.record_departure.new.self at.ensures.unique at.ensures.value c.recorder_index_by_hint-place.ensures c.record_departure.ensures ∙ sym (ap (λ (o : Option ℕ). update_if_some o f m.entries) c.in-Some.is)

pub recorder_index_by_hint-place-requires : goal.recorder_index_by_hint-place-requires
recorder_index_by_hint-place-requires g c =
    let m = c.args.tables.now in
    let there = subst (λ (o : Option ℕ). IfSome o (OwesCopy m.entries)) c.in-Some.is c.requires in
    there_by _ there.0 there.1

pub pair_mut-table-requires : goal.pair_mut-table-requires
pair_mut-table-requires g c = place_within c.args.tables.now.entries c.recorder_index_by_hint-place.result c.in-Some.number c.recorder_index_by_hint-place.ensures

pub returns-in_default : goal.returns-in_default
returns-in_default g c = sym (ap (λ (o : Option ℕ). update_if_some o (λ t. with_departure t c.args.departure c.args.delay) c.args.tables.now.entries) c.in_default.is)
