use Rattle.std.proofs.Common.{◌≡◌, ◌+◌, ◌-◌, ◌*◌, ◌/◌, ℕ, arith, subst}
use Rattle.std.proofs.Math.Nat.{div-mul-le_self}
use Rattle.bridge_port.specs.GateSchedule.{list_opens}
use Rattle.bridge_groups.specs.Work.{IsNthFit}
use Rattle.bridge_groups.proofs.SpanSearches.{skipped_rank}
use Rattle.bridge_groups.proofs.span_search.spans_bound.Goals as goal

pub loop-run-init : goal.loop-run-init
loop-run-init g c =
    let skipped : ℕ = (c.at.result - c.args.work) / c.args.per_cycle in
    let below = div-mul-le_self (c.at.result - c.args.work) c.args.per_cycle in
    let at = c.at.ensures in
    let low = c.requires.low in
    let burst = c.requires.burst in
    let cycle = c.cycle-cycle.ensures.cycle in
    record {
      searched = record {
        ranked = λ v first. subst (λ (i : ℕ). IsNthFit (list_opens c.args.list.now c.args.class) c.args.occ (skipped * c.args.per_cycle) c.args.start (v + skipped * i)) (let same : c.args.list.now.cycle ≡ c.cycle-cycle.result = omega (arith, cycle) in same) (skipped_rank (list_opens c.args.list.now c.args.class) c.args.occ c.args.list.now.cycle c.args.per_cycle skipped c.args.start v c.requires.fits first);
        covered = λ w p q. absurd (omega (arith, p, q));
        begun = omega arith;
        longer = omega arith;
        within = omega arith;
        few = omega (arith, below, at, low, burst);
        reached = λ _. omega (arith, below, at, low);
        most = λ _. omega (arith, burst);
      };
      near = omega arith;
    }
