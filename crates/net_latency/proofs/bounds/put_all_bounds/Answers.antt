use Rattle.std.proofs.Common.{sym, subst}
use Rattle.net_latency.specs.Bounds.{AreBoundsSoFar}
use Rattle.net_latency.proofs.Bounded.{all_bounds, none_yet}
use Rattle.net_latency.proofs.bounds.put_all_bounds.Goals as goal

pub loop-at-init : goal.loop-at-init
loop-at-init g c = subst (AreBoundsSoFar c.args.accepted.now c.args.order.now 0 0) (sym c.requires.none) (none_yet c.args.accepted.now c.args.order.now)

pub returns : goal.returns
returns g c = record { all = all_bounds c.args.accepted.now c.args.order.now c.loop-at.at c.loop-at.rows.items c.loop-at-test.false c.requires.same c.loop-at.invariant }
