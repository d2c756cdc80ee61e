use Rattle.std.proofs.Common.{◌≤◌, ◌∙◌, sym, subst}
use Rattle.std.proofs.lemmas.Option.{same_Some}
use Rattle.bridge_relay.specs.Recorders.{RecorderState, without_room}
use Rattle.bridge_relay.proofs.Changing.{change_at, own_at, place_within, there_by}
use Rattle.bridge_relay.proofs.filter_recorders.release_room.Goals as goal

pub release_room-requires : goal.release_room-requires
release_room-requires g c =
    let at = c.pair_mut-table in
    let owes = c.requires in
    let found = own_at c.args.tables.now c.recorder_index_by_hint-place.result at.result.0.now c.args.number at.result.1.now at.ensures.unique at.ensures.value c.recorder_index_by_hint-place.ensures in
    subst (λ (t : RecorderState). c.args.copies ≤ t.owed) (same_Some owes.0 at.result.1.now (sym owes.1 ∙ found)) owes.2

pub returns : goal.returns
returns g c =
    let at = c.pair_mut-table in
    change_at c.args.tables.now c.recorder_index_by_hint-place.result at.result.0.now c.args.number (λ t. without_room t c.args.copies) at.result.1.now c.release_room.new.self at.ensures.unique at.ensures.value c.recorder_index_by_hint-place.ensures c.release_room.ensures

pub recorder_index_by_hint-place-requires : goal.recorder_index_by_hint-place-requires
recorder_index_by_hint-place-requires g c = there_by _ c.requires.0 c.requires.1

pub pair_mut-table-requires : goal.pair_mut-table-requires
pair_mut-table-requires g c = place_within c.args.tables.now.entries c.recorder_index_by_hint-place.result c.args.number c.recorder_index_by_hint-place.ensures
