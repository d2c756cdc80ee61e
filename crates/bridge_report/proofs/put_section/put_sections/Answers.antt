use Rattle.bridge_report.specs.Section.{section_text}
use Rattle.bridge_report.proofs.Loops.{all_put, item_put}
use Rattle.bridge_report.proofs.Puts.{put_none}
use Rattle.bridge_report.proofs.put_section.put_sections.Goals as goal

pub loop-filter-init : goal.loop-filter-init
loop-filter-init g c = put_none _ _

pub loop-filter-preserved : goal.loop-filter-preserved
loop-filter-preserved g c = item_put _ (λ f. section_text f.0 f.1) c.args.filters.now _ _ _ _ _ c.loop-filter-test.true c.loop-filter-item.is c.loop-filter.invariant c.put_section.ensures

pub returns : goal.returns
returns g c = all_put _ (λ f. section_text f.0 f.1) c.args.filters.now _ _ _ c.loop-filter-test.false c.loop-filter.invariant
