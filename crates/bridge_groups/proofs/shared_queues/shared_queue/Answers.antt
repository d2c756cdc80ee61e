use Rattle.std.proofs.Common.{◌≡◌, ℕ, true, List, subst, refl}
use Rattle.std.specs.Prelude.{IfSome}
use Rattle.bridge_filter.specs.declared.FilterPlan.{FilterPlan}
use Rattle.bridge_config.specs.Model.{Plan}
use Rattle.bridge_groups.specs.ApartGates.{AreGatesApart}
use Rattle.bridge_groups.specs.MergedGates.{IsGatesBound}
use Rattle.bridge_groups.specs.Sharers.{queue_sharers}
use Rattle.bridge_groups.specs.SharedQueues.{IsCostBound, IsMeterBound, IsSharedRoom, lesser_bound}
use Rattle.bridge_groups.proofs.SharedQueues.{present, seen_few, seen_fits, seen_longest, seen_sharers, seen_small, shared_bound_is}
use Rattle.bridge_groups.proofs.shared_queues.shared_queue.Goals as goal

pub class_bound-by_room-requires-clause-sdu : goal.class_bound-by_room-requires-clause-sdu
class_bound-by_room-requires-clause-sdu g c = seen_small c.args.accepted.now c.args.group c.args.port.now.number c.args.class c.plan-plan.ensures.rules c.plan-plan.ensures.grouped c.plan-plan.result.now c.in-Ok.sharers.items c.deref.result.now c.plan-plan.ensures.plan c.in-Ok.ensures c.deref.ensures.value c.longest_sdu-sdu.result c.longest_sdu-sdu.ensures

pub class_bound-by_room-requires-clause-ever : goal.class_bound-by_room-requires-clause-ever
class_bound-by_room-requires-clause-ever g c = seen_fits c.args.accepted.now c.args.group c.args.port.now.number c.args.class c.plan-plan.ensures.rules c.plan-plan.ensures.grouped c.plan-plan.result.now c.in-Ok.sharers.items c.deref.result.now c.plan-plan.ensures.plan c.in-Ok.ensures c.deref.ensures.value c.longest_sdu-sdu.result c.longest_sdu-sdu.ensures c.args.port.now c.requires.port c.requires.reached

pub meter_figures-requires-clause-few : goal.meter_figures-requires-clause-few
meter_figures-requires-clause-few g c = seen_few c.args.accepted.now c.args.group c.args.port.now.number c.args.class c.plan-plan.ensures.rules c.plan-plan.ensures.grouped c.plan-plan.result.now c.in-Ok.sharers.items c.deref-2.result.now c.plan-plan.ensures.plan c.in-Ok.ensures c.deref-2.ensures.value

pub meter_figures-requires-clause-small : goal.meter_figures-requires-clause-small
meter_figures-requires-clause-small g c = seen_small c.args.accepted.now c.args.group c.args.port.now.number c.args.class c.plan-plan.ensures.rules c.plan-plan.ensures.grouped c.plan-plan.result.now c.in-Ok.sharers.items c.deref.result.now c.plan-plan.ensures.plan c.in-Ok.ensures c.deref.ensures.value c.longest_sdu-sdu.result c.longest_sdu-sdu.ensures

pub meter_figures-requires-clause-ever : goal.meter_figures-requires-clause-ever
meter_figures-requires-clause-ever g c = seen_fits c.args.accepted.now c.args.group c.args.port.now.number c.args.class c.plan-plan.ensures.rules c.plan-plan.ensures.grouped c.plan-plan.result.now c.in-Ok.sharers.items c.deref.result.now c.plan-plan.ensures.plan c.in-Ok.ensures c.deref.ensures.value c.longest_sdu-sdu.result c.longest_sdu-sdu.ensures c.args.port.now c.requires.port c.requires.reached

pub gate_figures-requires-clause-small : goal.gate_figures-requires-clause-small
gate_figures-requires-clause-small g c = seen_small c.args.accepted.now c.args.group c.args.port.now.number c.args.class c.plan-plan.ensures.rules c.plan-plan.ensures.grouped c.plan-plan.result.now c.in-Ok.sharers.items c.deref.result.now c.plan-plan.ensures.plan c.in-Ok.ensures c.deref.ensures.value c.longest_sdu-sdu.result c.longest_sdu-sdu.ensures

pub gate_figures-requires-clause-ever : goal.gate_figures-requires-clause-ever
gate_figures-requires-clause-ever g c = seen_fits c.args.accepted.now c.args.group c.args.port.now.number c.args.class c.plan-plan.ensures.rules c.plan-plan.ensures.grouped c.plan-plan.result.now c.in-Ok.sharers.items c.deref.result.now c.plan-plan.ensures.plan c.in-Ok.ensures c.deref.ensures.value c.longest_sdu-sdu.result c.longest_sdu-sdu.ensures c.args.port.now c.requires.port c.requires.reached

pub returns : goal.returns
returns g c =
    let p = c.args.accepted.now in
    let out = c.args.port.now in
    let own = queue_sharers p c.args.group c.args.port.now.number c.args.class p.filters in
    let sdu = seen_longest c.args.accepted.now c.args.group c.args.port.now.number c.args.class c.plan-plan.ensures.rules c.plan-plan.ensures.grouped c.plan-plan.result.now c.in-Ok.sharers.items c.deref.result.now c.plan-plan.ensures.plan c.in-Ok.ensures c.deref.ensures.value c.longest_sdu-sdu.result c.longest_sdu-sdu.ensures in
    let there = seen_sharers c.args.accepted.now c.args.group c.args.port.now.number c.args.class c.plan-plan.ensures.rules c.plan-plan.ensures.grouped c.plan-plan.result.now c.in-Ok.sharers.items c.deref-2.result.now c.plan-plan.ensures.plan c.in-Ok.ensures c.deref-2.ensures.value in
    let figures = c.in-Ok-meter_figures.figures in
    let bound = subst (λ (xs : List (ℕ × FilterPlan)). IfSome figures.bound (IsMeterBound p out xs c.args.class)) there (subst (λ (z : Plan _). IfSome figures.bound (IsMeterBound z out c.deref-2.result.now c.args.class)) c.plan-plan.ensures.plan c.in-Ok-meter_figures.ensures.bound) in
    let cost = subst (λ (xs : List (ℕ × FilterPlan)). IfSome figures.cost (IsCostBound p out xs c.args.class)) there (subst (λ (z : Plan _). IfSome figures.cost (IsCostBound z out c.deref-2.result.now c.args.class)) c.plan-plan.ensures.plan c.in-Ok-meter_figures.ensures.cost) in
    let room = subst (λ (xs : List (ℕ × FilterPlan)). IfSome figures.room (IsSharedRoom p out xs c.args.class)) there (subst (λ (z : Plan _). IfSome figures.room (IsSharedRoom z out c.deref-2.result.now c.args.class)) c.plan-plan.ensures.plan c.in-Ok-meter_figures.ensures.room) in
    let gates = c.in-Ok-gate_figures.gates in
    let by_gates = seen_sharers c.args.accepted.now c.args.group c.args.port.now.number c.args.class c.plan-plan.ensures.rules c.plan-plan.ensures.grouped c.plan-plan.result.now c.in-Ok.sharers.items c.deref-3.result.now c.plan-plan.ensures.plan c.in-Ok.ensures c.deref-3.ensures.value in
    let captured = subst (λ (xs : List (ℕ × FilterPlan)). IfSome gates.captured (IsGatesBound p out xs c.args.class 2)) by_gates (subst (λ (z : Plan _). IfSome gates.captured (IsGatesBound z out c.deref-3.result.now c.args.class 2)) c.plan-plan.ensures.plan c.in-Ok-gate_figures.ensures.captured) in
    let padded = subst (λ (xs : List (ℕ × FilterPlan)). IfSome gates.padded (IsGatesBound p out xs c.args.class 44)) by_gates (subst (λ (z : Plan _). IfSome gates.padded (IsGatesBound z out c.deref-3.result.now c.args.class 44)) c.plan-plan.ensures.plan c.in-Ok-gate_figures.ensures.padded) in
    let apart = subst (λ (xs : List (ℕ × FilterPlan)). gates.is_apart ≡ true → AreGatesApart p xs (lesser_bound c.least_bound-bound.result gates.captured)) by_gates (subst (λ (z : Plan _). gates.is_apart ≡ true → AreGatesApart z c.deref-3.result.now (lesser_bound c.least_bound-bound.result gates.captured)) c.plan-plan.ensures.plan c.in-Ok-gate_figures.ensures.apart) in
    record {
      is = record {
        out = out;
        at = c.requires.port;
        reached = c.requires.reached;
        bound = shared_bound_is p out own c.args.class c.longest_sdu-sdu.result c.least_bound-bound.result c.class_bound-by_room.result figures.bound figures.cost sdu bound cost c.class_bound-by_room.ensures c.least_bound-bound.ensures;
        metered = λ known. present figures.bound c.is_some.result c.is_some.ensures known bound;
        room = room;
        capacity = refl;
        by_gates = captured;
        padded = padded;
        apart = apart;
      };
      group_is = refl;
      port_is = refl;
      class_is = refl;
    }
