-- Numbers of the faults of writing a report, by which contracts compare faults.
use Rattle.std.specs.Prelude.{ℕ}
use Rattle.bridge_report.specs.declared.report_fault.ReportFault.{ReportFault}
use Rattle.bridge_report.specs.declared.report_fault.ReportFault.TheVariants.{Broken, NoMemory}

-- The number of a fault of a report: 1 if the writer failed, 2 if memory ran out.
abbrev pub fault_code : ReportFault → ℕ
fault_code Broken = 1
fault_code NoMemory = 2
