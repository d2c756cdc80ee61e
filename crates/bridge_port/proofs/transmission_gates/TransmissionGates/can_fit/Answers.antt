use Rattle.std.proofs.Common.{◌≡◌, subst}
use Rattle.bridge_port.specs.GateSchedule.{can_fit, GateSchedule, gate_schedule}
use Rattle.bridge_port.proofs.Opening.{run_decides}
use Rattle.bridge_port.proofs.transmission_gates.TransmissionGates.can_fit.Goals as goal

pub returns : goal.returns
returns g c = subst (λ (o : GateSchedule). c.allows.result ≡ can_fit o c.args.class c.args.occ) c.self.view_is (run_decides (can_fit (gate_schedule c.self.inside.list)) c.self.inside.kept.runs c.args.class c.args.occ c.allows.result c.self.invariant.runs.allow c.requires c.allows.ensures)
