use Rattle.std.proofs.Common.{◌≡◌, ◌∙◌, nat_eq, None}
use Rattle.std.specs.Map.{lookup}
use Rattle.bridge_filter.proofs.Made.{new_filters-more, new_filter_absent}
use Rattle.bridge_filter.proofs.make_instances.make_filters.Goals as goal

pub loop-number-preserved : goal.loop-number-preserved
loop-number-preserved g c =
    let plans = c.args.plans.now in
    let i = c.loop-number.number-index in
    let was = c.loop-number.made in
    let same : was.entries ≡ _ = c.loop-number.invariant in
    let absent : lookup (nat_eq _) was.entries ≡ None = rw same (new_filter_absent plans i _ c.loop-number-test.true c.requires) in
    c.in_ok-insert_instance.ensures.entries absent ∙ rw (same, c.new.ensures) (new_filters-more plans i _ c.loop-number-test.true)
