use Rattle.std.proofs.Common.{ap, sym}
use Rattle.net_check.specs.Networks.{network_fault_line}
use Rattle.bridge_text.proofs.Puts.{put_as, put_piece}
use Rattle.net_check.proofs.refusing.put_network_fault.Goals as goal

pub returns-in-Unresolved : goal.returns-in-Unresolved
unfolding network_fault_line
returns-in-Unresolved g c = put_as _ _ _ _ c.put_link_fault.ensures (ap (network_fault_line c.args.bridges.now) (sym c.in-Unresolved.is))

pub returns-in-SpeedsDiffer : goal.returns-in-SpeedsDiffer
unfolding network_fault_line
returns-in-SpeedsDiffer g c = put_as _ _ _ _ c.put_link_fault-in-SpeedsDiffer.ensures (ap (network_fault_line c.args.bridges.now) (sym c.in-SpeedsDiffer.is))

pub returns-in-NotProtected : goal.returns-in-NotProtected
unfolding network_fault_line
returns-in-NotProtected g c = put_as _ _ _ _ c.put_hop_fault.ensures (ap (network_fault_line c.args.bridges.now) (sym c.in-NotProtected.is))

pub returns-in-HopTwice : goal.returns-in-HopTwice
unfolding network_fault_line
returns-in-HopTwice g c = put_as _ _ _ _ c.put_hop_fault-in-HopTwice.ensures (ap (network_fault_line c.args.bridges.now) (sym c.in-HopTwice.is))

pub returns-in-NotFed : goal.returns-in-NotFed
unfolding network_fault_line
returns-in-NotFed g c = put_as _ _ _ _ c.put_hop_fault-in-NotFed.ensures (ap (network_fault_line c.args.bridges.now) (sym c.in-NotFed.is))

pub returns-in-LinkTwice : goal.returns-in-LinkTwice
unfolding network_fault_line
returns-in-LinkTwice g c = put_as _ _ _ _ (put_piece _ _ _ _ _ c.put_link_fault-in-LinkTwice.ensures (put_piece _ _ _ _ _ c.put.ensures c.put_port.ensures)) (ap (network_fault_line c.args.bridges.now) (sym c.in-LinkTwice.is))

pub returns-in-NotClosed : goal.returns-in-NotClosed
unfolding network_fault_line
returns-in-NotClosed g c = put_as _ _ _ _ (put_piece _ _ _ _ _ c.put_hop_fault-in-NotClosed.ensures (put_piece _ _ _ _ _ c.put-in-NotClosed.ensures (put_piece _ _ _ _ _ c.put_port-in-NotClosed.ensures c.put_sender.ensures))) (ap (network_fault_line c.args.bridges.now) (sym c.in-NotClosed.is))
