use Rattle.std.proofs.Common.{◌-◌, arith, refl}
use Rattle.bridge_port.specs.GateSchedule.{gate_schedule, opens}
use Rattle.bridge_bounds.proofs.Phased.{shortest_wait}
use Rattle.bridge_bounds.proofs.timing.timing_by_lists.Goals as goal

pub returns : goal.returns
returns g c =
    let waits = c.in-Some.waits in
    let worst = c.min-2.ensures in
    let inner = c.min.ensures in
    let best = c.saturating_sub.ensures in
    record {
      phases = record {
        first = waits.first;
        last = waits.last;
        repeats = c.in-Some.ensures.repeats;
        is_first = c.in-Some.ensures.waits.first;
        is_last = c.in-Some.ensures.waits.last;
        from = refl;
        to = refl;
        through = c.if-done-traffic.false;
      };
      longest = waits.longest;
      shortest = waits.first - c.args.traffic.now.to;
      is_longest = c.in-Some.ensures.waits.longest;
      is_shortest = shortest_wait (opens (gate_schedule c.args.lists.now) c.args.class) c.args.short c.args.traffic.now.from c.args.traffic.now.to waits.first c.requires.traffic.phases c.in-Some.ensures.waits.first;
      worst = omega (arith, worst, inner);
      best = omega (arith, best);
    }
