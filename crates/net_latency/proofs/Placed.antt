-- The queues of a plan are queues of its ports.
use Rattle.std.proofs.Common.{List, All}
use Rattle.bridge_config.specs.Model.{Plan}
use Rattle.bridge_config.specs.Rules.{IsPlan}
use Rattle.net_latency.specs.declared.bounds.QueueBound.{QueueBound}
use Rattle.net_latency.specs.Bounds.{AreBounds, HasValidPort}
use Rattle.net_latency.proofs.Gathered.{placed}
use Rattle.net_latency.proofs.Queued.{all_members}

pub all_placed : {A : Type 0} (p : Plan A) (rows : List QueueBound) → IsPlan p → AreBounds p rows → All HasValidPort rows
all_placed p rows plan are = all_members HasValidPort rows (λ r is.
    let at = placed p r.filter r.port r.class r.bound plan (are.each r is) in
    record { from = at.from; to = at.to; class = at.class })
