use Rattle.std.proofs.Common.{subst}
use Rattle.net_latency.specs.Bounds.{AreLowered}
use Rattle.net_latency.proofs.Lowered.{lowered_placed}
use Rattle.net_latency.proofs.tight.least_queue_bounds.Goals as goal

pub returns-in-Ok-lower_bounds : goal.returns-in-Ok-lower_bounds
returns-in-Ok-lower_bounds g c =
    let bounds = c.in-Ok.bounds.items in
    let rows = c.in-Ok-lower_bounds.rows.items in
    let lowered = subst (λ l. AreLowered c.args.accepted.now l rows) c.deref.ensures.value c.in-Ok-lower_bounds.ensures in
    record {
      bounds = (bounds, c.in-Ok.ensures.bounds, lowered);
      placed = lowered_placed c.args.accepted.now bounds rows lowered c.in-Ok.ensures.placed;
    }
