use Rattle.std.proofs.Common.{take}
use Rattle.bridge_report.specs.Growth.{HasGrown}
use Rattle.bridge_report.specs.Section.{report_text}
use Rattle.bridge_report.proofs.put_section.put_sections.Given as goal

abbrev pub invariant-loop-filter : goal.invariant-loop-filter
invariant-loop-filter g l = HasGrown g.T.ReportSink.contents l.fn.text (report_text (take l.filter-index l.filters)) l.text
