use Rattle.std.proofs.Common.{ℕ, ◌+◌, ◌<◌, ◌∙◌, ap, sym, subst, Option}
use Rattle.std.specs.Prelude.{IfSome}
use Rattle.std.proofs.lemmas.Option.{same_Some}
use Rattle.bridge_relay.specs.Recorders.{CanReserve, RecorderState, update_if_some, with_room}
use Rattle.bridge_relay.proofs.Changing.{change_at, on_err, on_ok, own_at, place_within, same_at, there_by}
use Rattle.bridge_relay.proofs.filter_recorders.reserve_room.Goals as goal

pub reserve_room-requires : goal.reserve_room-requires
reserve_room-requires g c =
    let at = c.pair_mut-table in
    let m = c.args.tables.now in
    let may = subst (λ (o : Option ℕ). IfSome o (CanReserve m.entries c.args.copies)) c.in-Some.is c.requires.there in
    let found = own_at m c.recorder_index_by_hint-place.result at.result.0.now c.in-Some.number at.result.1.now at.ensures.unique at.ensures.value c.recorder_index_by_hint-place.ensures in
    subst (λ (t : RecorderState). t.owed + c.args.copies < 4294967296) (same_Some may.0 at.result.1.now (sym may.1 ∙ found)) may.2

pub returns-in-Some-clause-ok : goal.returns-in-Some-clause-ok
returns-in-Some-clause-ok g c =
    let at = c.pair_mut-table in
    let m = c.args.tables.now in
    let f : RecorderState → RecorderState = λ t. with_room t c.args.copies in
    on_ok c.reserve_room.result (λ h. change_at m c.recorder_index_by_hint-place.result at.result.0.now c.in-Some.number f at.result.1.now c.reserve_room.new.self at.ensures.unique at.ensures.value c.recorder_index_by_hint-place.ensures h ∙ sym (ap (λ (o : Option ℕ). update_if_some o f m.entries) c.in-Some.is)) c.reserve_room.ensures.ok

pub returns-in-Some-clause-err : goal.returns-in-Some-clause-err
returns-in-Some-clause-err g c =
    let at = c.pair_mut-table in
    let m = c.args.tables.now in
    on_err c.reserve_room.result (λ h. same_at m c.recorder_index_by_hint-place.result at.result.0.now c.in-Some.number at.result.1.now c.reserve_room.new.self at.ensures.unique at.ensures.value c.recorder_index_by_hint-place.ensures h) c.reserve_room.ensures.err

pub recorder_index_by_hint-place-requires : goal.recorder_index_by_hint-place-requires
recorder_index_by_hint-place-requires g c =
    let m = c.args.tables.now in
    let there = subst (λ (o : Option ℕ). IfSome o (CanReserve m.entries c.args.copies)) c.in-Some.is c.requires.there in
    there_by _ there.0 there.1

pub pair_mut-table-requires : goal.pair_mut-table-requires
pair_mut-table-requires g c = place_within c.args.tables.now.entries c.recorder_index_by_hint-place.result c.in-Some.number c.recorder_index_by_hint-place.ensures

pub returns-in-None-clause-ok : goal.returns-in-None-clause-ok
returns-in-None-clause-ok g c = sym (ap (λ (o : Option ℕ). update_if_some o (λ t. with_room t c.args.copies) c.args.tables.now.entries) c.in-None.is)
