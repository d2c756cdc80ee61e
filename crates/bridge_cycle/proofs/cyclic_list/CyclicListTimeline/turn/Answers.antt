use Rattle.std.proofs.Common.{◌+◌, arith, zero-add}
use Rattle.std.proofs.Math.Nat.{mod-lt}
use Rattle.bridge_cycle.specs.CyclicLaws.{interval_is_exact}
use Rattle.bridge_cycle.proofs.cyclic_list.CyclicListTimeline.turn.Goals as goal

pub overflow_sub-result : goal.overflow_sub-result
overflow_sub-result g c =
    let below = mod-lt (c.args.t + c.self.inside.shift) c.self.invariant.0.cycle_some in
    (interval_is_exact _ 0 c.self.inside.cycle _ _ (rw (c.deref.ensures.value, zero-add) c.self.invariant.0.within) (omega arith) below c.find_interval-state.ensures).begins

pub overflow_sub-result-3 : goal.overflow_sub-result-3
overflow_sub-result-3 g c =
    let below = mod-lt (c.args.t + c.self.inside.shift) c.self.invariant.0.cycle_some in
    let e = (interval_is_exact _ 0 c.self.inside.cycle _ _ (rw (c.deref.ensures.value, zero-add) c.self.invariant.0.within) (omega arith) below c.find_interval-state.ensures).ends in
    omega arith

pub overflow_add-result : goal.overflow_add-result
overflow_add-result g c =
    let below = mod-lt (c.args.t + c.self.inside.shift) c.self.invariant.0.cycle_some in
    let e = (interval_is_exact _ 0 c.self.inside.cycle _ _ (rw (c.deref.ensures.value, zero-add) c.self.invariant.0.within) (omega arith) below c.find_interval-state.ensures).within in
    omega arith
