use Rattle.std.proofs.Common.{ℕ, ◌+◌, subst, refl}
use Rattle.bridge_cycle.specs.Cyclic.{Cyclic}
use Rattle.bridge_port.specs.GateSchedule.{list_opens}
use Rattle.bridge_groups.specs.LinearCurves.{curve_at}
use Rattle.bridge_groups.specs.Work.{IsDelayBound}
use Rattle.bridge_groups.proofs.SharedQueues.{same_bound}
use Rattle.bridge_groups.proofs.shared_queues.change_bound.Goals as goal

pub returns : goal.returns
returns g c =
    let curve : ℕ → ℕ = curve_at c.args.curve.now in
    let shift = c.in_ok-before.before + c.args.occ in
    record {
      before = c.in_ok-before.before;
      after = c.in_ok-after.after;
      old_bound = subst (λ (l : Cyclic ℕ). IsDelayBound (list_opens l c.args.class) c.args.occ c.args.least curve c.in_ok-before.before) c.lists.ensures.old c.in_ok-before.ensures;
      new_bound = same_bound (list_opens c.args.joined.now.new c.args.class) c.args.occ c.args.least c.in_ok-after.after (curve_at c.in_ok-later.later) (λ w. curve (w + shift)) c.in_ok-later.ensures.value
          (subst (λ (l : Cyclic ℕ). IsDelayBound (list_opens l c.args.class) c.args.occ c.args.least (curve_at c.in_ok-later.later) c.in_ok-after.after) c.lists.ensures.new c.in_ok-after.ensures);
      sum = refl;
    }
