use Rattle.std.proofs.Common.{◌≡◌, ◌∙◌, nat_eq, None}
use Rattle.std.specs.Map.{lookup}
use Rattle.indexmap.proofs.CallerLemmas.{insert_entry-new}
use Rattle.bridge_relay.proofs.Fresh.{fresh-more, fresh_absent}
use Rattle.bridge_relay.proofs.filter_recorders.make_recorders.Goals as goal

pub loop-number-preserved : goal.loop-number-preserved
loop-number-preserved g c =
    let plans = c.args.filters.now in
    let i = c.loop-number.number-index in
    let was = c.loop-number.tables in
    let same : was.entries ≡ _ = c.loop-number.invariant in
    let absent : lookup (nat_eq _) was.entries ≡ None = rw same (fresh_absent plans i _ c.loop-number-test.true c.requires) in
    c.in-Ok-insert.ensures.entries ∙ (insert_entry-new nat_eq was _ c.new.result absent ∙ rw (same, c.new.ensures) (fresh-more plans i _ c.loop-number-test.true))
