use Rattle.bridge_report.proofs.Lookups.{found, found_none, passed}
use Rattle.bridge_report.proofs.sections.find_view.Goals as goal

pub returns-then-f-filter : goal.returns-then-f-filter
returns-then-f-filter g c = found _ _ _ _ _ c.deref-f-items.ensures.value c.loop-f-test.true c.f-item.is c.if-f-filter.true c.loop-f.invariant

pub loop-f-preserved : goal.loop-f-preserved
loop-f-preserved g c = passed c.args.filter c.deref-f-items.result.now c.args.outcome.now.filters.items c.loop-f.f-index _ c.loop-f-test.true c.f-item.is c.if-f-filter.false c.loop-f.invariant

pub returns : goal.returns
returns g c = found_none _ _ _ _ c.deref-f-items.ensures.value c.loop-f-test.false c.loop-f.invariant
