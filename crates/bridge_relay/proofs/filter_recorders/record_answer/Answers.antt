use Rattle.std.proofs.Common.{◌≡◌, ℕ, ◌<◌, ◌∙◌, ap, sym, subst, Option}
use Rattle.std.specs.Prelude.{IfSome}
use Rattle.std.proofs.lemmas.Option.{same_Some}
use Rattle.bridge_semantics.specs.declared.outcome.Dropped.{Dropped}
use Rattle.bridge_relay.specs.Recorders.{OwesCopy, RecorderState, recorders_with_answer, update_if_some, with_drop}
use Rattle.bridge_relay.proofs.Changing.{change_at, own_at, place_within, there_by}
use Rattle.bridge_relay.proofs.filter_recorders.record_answer.Goals as goal

pub record_drop-requires : goal.record_drop-requires
record_drop-requires g c =
    let at = c.pair_mut-table in
    let m = c.args.tables.now in
    let owes = subst (λ (o : Option ℕ). IfSome o (OwesCopy m.entries)) c.in-Some.is c.requires in
    let found = own_at m c.recorder_index_by_hint-place.result at.result.0.now c.in-Some.number at.result.1.now at.ensures.unique at.ensures.value c.recorder_index_by_hint-place.ensures in
    subst (λ (t : RecorderState). 0 < t.owed) (same_Some owes.0 at.result.1.now (sym owes.1 ∙ found)) owes.2

pub returns-in-Some : goal.returns-in-Some
returns-in-Some g c =
    let at = c.pair_mut-table in
    let m = c.args.tables.now in
    let f : RecorderState → RecorderState = λ t. with_drop t (record { own = c.args.own; port = c.args.port; refusal = c.in-Err.refusal }) in
    change_at m c.recorder_index_by_hint-place.result at.result.0.now c.in-Some.number f at.result.1.now c.record_drop.new.self at.ensures.unique at.ensures.value c.recorder_index_by_hint-place.ensures (subst (λ (d : Dropped). c.record_drop.new.self ≡ with_drop at.result.1.now d) c.new.ensures c.record_drop.ensures)
    ∙ (sym (ap (λ (o : Option ℕ). update_if_some o f m.entries) c.in-Some.is)
    ∙ sym (ap (recorders_with_answer m.entries c.args.flow c.args.own c.args.port) c.in-Err.is))

pub recorder_index_by_hint-place-requires : goal.recorder_index_by_hint-place-requires
recorder_index_by_hint-place-requires g c =
    let m = c.args.tables.now in
    let there = subst (λ (o : Option ℕ). IfSome o (OwesCopy m.entries)) c.in-Some.is c.requires in
    there_by _ there.0 there.1

pub pair_mut-table-requires : goal.pair_mut-table-requires
pair_mut-table-requires g c = place_within c.args.tables.now.entries c.recorder_index_by_hint-place.result c.in-Some.number c.recorder_index_by_hint-place.ensures
