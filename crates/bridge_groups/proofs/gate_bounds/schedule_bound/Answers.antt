use Rattle.std.proofs.Common.{◌∙◌, ap, sym}
use Rattle.bridge_groups.specs.GateBounds.{are_limited}
use Rattle.bridge_groups.proofs.GateRuns.{schedule_bound_is}
use Rattle.bridge_groups.proofs.gate_bounds.schedule_bound.Goals as goal

pub returns : goal.returns
returns g c = schedule_bound_is c.args.schedule.now c.args.port.now c.in-Cyclic.gate c.args.class c.args.sdu c.args.fewest c.port_gate_bound.result c.in-Cyclic.is (ap are_limited (sym c.entries.ensures.entries) ∙ (sym c.are_limited.ensures ∙ c.if-not-are_limited.false)) c.port_gate_bound.ensures
