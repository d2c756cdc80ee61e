use Rattle.std.proofs.Common.{◌+◌, ◌≡◌, ◌∙◌, ap, length, sym, subst, true}
use Rattle.std.proofs.lemmas.Option.{same_Some}
use Rattle.bridge_relay.specs.Recorders.{RecorderState, with_verdict}
use Rattle.bridge_relay.proofs.Changing.{change_at, own_at, place_within, there_by}
use Rattle.bridge_relay.proofs.filter_recorders.record_verdict.Goals as goal

pub record_verdict-requires-clause-open : goal.record_verdict-requires-clause-open
record_verdict-requires-clause-open g c =
    let at = c.pair_mut-table in
    let open_so = c.requires.open in
    let found = own_at c.args.tables.now c.recorder_index_by_hint-place.result at.result.0.now c.args.number at.result.1.now at.ensures.unique at.ensures.value c.recorder_index_by_hint-place.ensures in
    subst (λ (t : RecorderState). t.is_open ≡ true) (same_Some open_so.0 at.result.1.now (sym open_so.1 ∙ found)) open_so.2

pub returns-clause-told : goal.returns-clause-told
returns-clause-told g c =
    let at = c.pair_mut-table in
    change_at c.args.tables.now c.recorder_index_by_hint-place.result at.result.0.now c.args.number (λ t. with_verdict t c.args.verdict c.args.origin) at.result.1.now c.record_verdict.new.self at.ensures.unique at.ensures.value c.recorder_index_by_hint-place.ensures c.record_verdict.ensures.told

pub returns-clause-own : goal.returns-clause-own
returns-clause-own g c = λ t is.
    let at = c.pair_mut-table in
    let found = own_at c.args.tables.now c.recorder_index_by_hint-place.result at.result.0.now c.args.number at.result.1.now at.ensures.unique at.ensures.value c.recorder_index_by_hint-place.ensures in
    c.record_verdict.ensures.own ∙ ap (λ (s : RecorderState). length s.verdicts + 1) (same_Some at.result.1.now t (sym found ∙ is))

pub recorder_index_by_hint-place-requires : goal.recorder_index_by_hint-place-requires
recorder_index_by_hint-place-requires g c = there_by _ c.requires.open.0 c.requires.open.1

pub pair_mut-table-requires : goal.pair_mut-table-requires
pair_mut-table-requires g c = place_within c.args.tables.now.entries c.recorder_index_by_hint-place.result c.args.number c.recorder_index_by_hint-place.ensures
