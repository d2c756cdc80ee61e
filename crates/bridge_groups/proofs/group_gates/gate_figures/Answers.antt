use Rattle.std.proofs.Common.{List, Option, arith, subst}
use Rattle.std.specs.Prelude.{IfSome}
use Rattle.bridge_limits.specs.Members.{IsMember}
use Rattle.bridge_cycle.specs.Cyclic.{Cyclic}
use Rattle.bridge_gate.specs.declared.schedule.GateEntry.{GateEntry}
use Rattle.bridge_groups.specs.ApartGates.{AreListsApart}
use Rattle.bridge_groups.specs.MergedGates.{AreGateLists, IsMergedList}
use Rattle.bridge_groups.proofs.GroupGates.{gates_bound_is, lists_lawful}
use Rattle.bridge_groups.proofs.group_gates.gate_figures.Goals as goal

pub merged_list-requires : goal.merged_list-requires
merged_list-requires g c =
    let are = subst (λ (o : Option _). IfSome o (λ v. AreGateLists c.args.plan.now c.args.sharers.now v.items)) c.in-Some.is c.in-Ok.ensures in
    record { lawful = λ l i. lists_lawful c.args.plan.now c.args.sharers.now c.in-Some.lists.items are l (subst (IsMember l) c.deref.ensures.value i) }

pub are_lists_apart-requires : goal.are_lists_apart-requires
are_lists_apart-requires g c =
    let are = subst (λ (o : Option _). IfSome o (λ v. AreGateLists c.args.plan.now c.args.sharers.now v.items)) c.in-Some.is c.in-Ok.ensures in
    record { lawful = λ l i. lists_lawful c.args.plan.now c.args.sharers.now c.in-Some.lists.items are l (subst (IsMember l) c.deref-2.ensures.value i) }

pub returns-clause-apart : goal.returns-clause-apart
returns-clause-apart g c = λ known.
    let are = subst (λ (o : Option _). IfSome o (λ v. AreGateLists c.args.plan.now c.args.sharers.now v.items)) c.in-Some.is c.in-Ok.ensures in
    let apart = subst (λ (ls : List (Cyclic GateEntry)). AreListsApart ls c.lesser_bound.result) c.deref-2.ensures.value (c.are_lists_apart.ensures known) in
    record { lists = c.in-Some.lists.items; are = are; apart = subst (AreListsApart c.in-Some.lists.items) c.lesser_bound.ensures apart }

pub returns-clause-captured : goal.returns-clause-captured
returns-clause-captured g c =
    let are = subst (λ (o : Option _). IfSome o (λ v. AreGateLists c.args.plan.now c.args.sharers.now v.items)) c.in-Some.is c.in-Ok.ensures in
    let merged = subst (λ (o : Option (Cyclic GateEntry)). IfSome o (IsMergedList c.deref.result.now)) c.in-Some-list.is c.in-Ok-merged_list.ensures in
    gates_bound_is c.args.plan.now c.args.port.now c.args.sharers.now c.args.class 2 c.args.sdu c.port_gate_bound-captured.result c.in-Some.lists.items c.in-Some-list.merged (omega arith) (omega arith) are (subst (λ (ls : List (Cyclic GateEntry)). IsMergedList ls c.in-Some-list.merged) c.deref.ensures.value merged) c.requires.sdu c.port_gate_bound-captured.ensures

pub returns-clause-padded : goal.returns-clause-padded
returns-clause-padded g c =
    let are = subst (λ (o : Option _). IfSome o (λ v. AreGateLists c.args.plan.now c.args.sharers.now v.items)) c.in-Some.is c.in-Ok.ensures in
    let merged = subst (λ (o : Option (Cyclic GateEntry)). IfSome o (IsMergedList c.deref.result.now)) c.in-Some-list.is c.in-Ok-merged_list.ensures in
    gates_bound_is c.args.plan.now c.args.port.now c.args.sharers.now c.args.class 44 c.args.sdu c.port_gate_bound.result c.in-Some.lists.items c.in-Some-list.merged (omega arith) (omega arith) are (subst (λ (ls : List (Cyclic GateEntry)). IsMergedList ls c.in-Some-list.merged) c.deref.ensures.value merged) c.requires.sdu c.port_gate_bound.ensures
