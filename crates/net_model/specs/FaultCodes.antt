-- Numbers of the faults of a network, by which contracts compare faults.
use Rattle.std.specs.Prelude.{ℕ}
use Rattle.net_model.specs.declared.fault.NetworkFault.{NetworkFault}
use Rattle.net_model.specs.declared.fault.NetworkFault.TheVariants as fault

-- Number of a fault. It doesn't depend on the fault's link, stream or hop.
abbrev pub fault_code : NetworkFault → ℕ
fault_code (fault.Unresolved link) = 9
fault_code (fault.LinkTwice link end) = 13
fault_code (fault.SpeedsDiffer link) = 14
fault_code (fault.NotProtected stream hop) = 15
fault_code (fault.HopTwice stream hop) = 16
fault_code (fault.NotClosed stream hop bridge port filter from) = 17
fault_code (fault.NotFed stream hop) = 18
