use Rattle.std.proofs.Common.{◌*◌, ap, sym, subst}
use Rattle.bridge_port.specs.GateSchedule.{GateSchedule, gate_schedule, opens}
use Rattle.bridge_bounds.specs.Bounds.{IsLeastTime, IsLongestTime}
use Rattle.bridge_bounds.proofs.Lists.{always_attained, always_longest}
use Rattle.bridge_bounds.proofs.longest_time.port_longest_time.Goals as goal

pub returns-in-None-clause-longest : goal.returns-in-None-clause-longest
returns-in-None-clause-longest g c = subst (λ (o : GateSchedule). IsLongestTime (opens o c.args.class) c.args.occ c.args.room (c.args.room * c.args.occ)) (sym (ap gate_schedule c.in-None.is)) (always_longest c.args.class c.args.occ c.args.room)

pub returns-in-None-clause-least : goal.returns-in-None-clause-least
returns-in-None-clause-least g c = subst (λ (o : GateSchedule). IsLeastTime o c.args.class c.args.occ c.args.room (c.args.room * c.args.occ)) (sym (ap gate_schedule c.in-None.is)) (always_attained c.args.class c.args.occ c.args.room)

pub returns-in-Some-clause-longest : goal.returns-in-Some-clause-longest
returns-in-Some-clause-longest g c = subst (λ (o : GateSchedule). IsLongestTime (opens o c.args.class) c.args.occ c.args.room c.egress_longest_time.result) (sym (ap gate_schedule c.in-Some.is)) c.egress_longest_time.ensures.longest
