use Rattle.show_tables.proofs.Rising.{reaches_end, reaches_first, reaches_more}
use Rattle.show_tables.proofs.delays.put_filters.Goals as goal

pub loop-first-init : goal.loop-first-init
loop-first-init g c = reaches_first c.args.accepted.now c.args.filters.now _

pub loop-first-preserved : goal.loop-first-preserved
loop-first-preserved g c =
    let told = c.in_ok-put_filter_with_bounds.ensures in
    reaches_more c.args.accepted.now c.args.filters.now c.loop-first.left.now c.in-Some.rest.now c.in-Some.first.now _ _ _ told.0 c.in-Some.ensures.cases.0 c.loop-first.invariant told.1 told.2

pub returns : goal.returns
returns g c = reaches_end c.args.accepted.now c.args.filters.now c.loop-first.left.now _ _ c.in_default.ensures.cases c.loop-first.invariant
