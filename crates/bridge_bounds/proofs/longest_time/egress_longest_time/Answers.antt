use Rattle.std.proofs.Common.{◌≡◌, ◌+◌, true, ap, sym, subst, Some}
use Rattle.bridge_cycle.specs.Cyclic.{Cyclic}
use Rattle.bridge_port.specs.GateSchedule.{Changing, One, GateSchedule, can_fit, list_opens, gate_schedule, opens}
use Rattle.bridge_bounds.specs.Bounds.{IsLongestTime}
use Rattle.bridge_bounds.proofs.Lists.{exchanged_longest}
use Rattle.bridge_bounds.proofs.longest_time.egress_longest_time.Goals as goal

pub returns-in-Cyclic-clause-longest : goal.returns-in-Cyclic-clause-longest
returns-in-Cyclic-clause-longest g c =
    let is : gate_schedule (Some c.args.lists.now) ≡ One c.in-Cyclic.list = ap (λ e. gate_schedule (Some e)) c.in-Cyclic.is in
    subst (λ (o : GateSchedule). IsLongestTime (opens o c.args.class) c.args.occ c.args.room c.list_longest_time.result) (sym is) c.list_longest_time.ensures.longest

pub returns-in-Joined-clause-longest : goal.returns-in-Joined-clause-longest
returns-in-Joined-clause-longest g c =
    let j = c.in-Joined.joined in
    let is : gate_schedule (Some c.args.lists.now) ≡ Changing j = ap (λ e. gate_schedule (Some e)) c.in-Joined.is in
    let can : can_fit (Changing j) c.args.class c.args.occ ≡ true = subst (λ (o : GateSchedule). can_fit o c.args.class c.args.occ ≡ true) is c.requires.ever in
    let old = subst (λ (l : Cyclic _). IsLongestTime (list_opens l c.args.class) c.args.occ c.args.room c.list_longest_time-in-Joined.result) c.lists.ensures.old c.list_longest_time-in-Joined.ensures.longest in
    let new = subst (λ (l : Cyclic _). IsLongestTime (list_opens l c.args.class) c.args.occ c.args.room c.list_longest_time-in-Joined-2.result) c.lists.ensures.new c.list_longest_time-in-Joined-2.ensures.longest in
    subst (λ (o : GateSchedule). IsLongestTime (opens o c.args.class) c.args.occ c.args.room (c.list_longest_time-in-Joined.result + c.list_longest_time-in-Joined-2.result)) (sym is) (exchanged_longest j c.args.class c.args.occ c.args.room c.list_longest_time-in-Joined.result c.list_longest_time-in-Joined-2.result c.lists.ensures.lawful can old new)
