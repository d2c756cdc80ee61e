use Rattle.std.proofs.Common.{ap, sym}
use Rattle.bridge_text.proofs.Puts.{put_as}
use Rattle.app_failure.specs.CheckLines.{check_fault_line}
use Rattle.app_failure.proofs.isolation_line.put_check_fault.Goals as goal

pub returns-in-ProtectedWildcard : goal.returns-in-ProtectedWildcard
returns-in-ProtectedWildcard g c = put_as _ _ _ _ c.put_filter_fault.ensures (ap check_fault_line (sym c.in-ProtectedWildcard.is))

pub returns-in-NoMaxSdu : goal.returns-in-NoMaxSdu
returns-in-NoMaxSdu g c = put_as _ _ _ _ c.put_filter_fault-in-NoMaxSdu.ensures (ap check_fault_line (sym c.in-NoMaxSdu.is))

pub returns-in-GateShared : goal.returns-in-GateShared
returns-in-GateShared g c = put_as _ _ _ _ c.put_filter_fault-in-GateShared.ensures (ap check_fault_line (sym c.in-GateShared.is))

pub returns-in-MeterShared : goal.returns-in-MeterShared
returns-in-MeterShared g c = put_as _ _ _ _ c.put_filter_fault-in-MeterShared.ensures (ap check_fault_line (sym c.in-MeterShared.is))

pub returns-in-NoCatchAll : goal.returns-in-NoCatchAll
returns-in-NoCatchAll g c = put_as _ _ _ _ c.put_filter_fault-in-NoCatchAll.ensures (ap check_fault_line (sym c.in-NoCatchAll.is))

pub returns-in-QueueShared : goal.returns-in-QueueShared
returns-in-QueueShared g c = put_as _ _ _ _ c.put_shared_queue.ensures (ap check_fault_line (sym c.in-QueueShared.is))

pub returns-in-WindowShared : goal.returns-in-WindowShared
returns-in-WindowShared g c = put_as _ _ _ _ c.put_shared_window.ensures (ap check_fault_line (sym c.in-WindowShared.is))

pub returns-in-MaxSduNeverFits : goal.returns-in-MaxSduNeverFits
returns-in-MaxSduNeverFits g c = put_as _ _ _ _ c.put_queue_fault.ensures (ap check_fault_line (sym c.in-MaxSduNeverFits.is))
