use Rattle.std.proofs.Common.{refl}
use Rattle.net_latency.proofs.Gathered.{not_without, placed}
use Rattle.net_latency.proofs.tight.lower_bound.Goals as goal

pub least_queue_bound-requires-clause-from : goal.least_queue_bound-requires-clause-from
least_queue_bound-requires-clause-from g c = (placed c.args.accepted.now c.args.queue.now.filter c.args.queue.now.port c.args.queue.now.class c.args.queue.now.bound c.plan.ensures.rules c.requires.bound).from

pub least_queue_bound-requires-clause-to : goal.least_queue_bound-requires-clause-to
least_queue_bound-requires-clause-to g c = (placed c.args.accepted.now c.args.queue.now.filter c.args.queue.now.port c.args.queue.now.class c.args.queue.now.bound c.plan.ensures.rules c.requires.bound).to

pub least_queue_bound-requires-clause-class : goal.least_queue_bound-requires-clause-class
least_queue_bound-requires-clause-class g c = (placed c.args.accepted.now c.args.queue.now.filter c.args.queue.now.port c.args.queue.now.class c.args.queue.now.bound c.plan.ensures.rules c.requires.bound).class

pub returns-in-Some : goal.returns-in-Some
returns-in-Some g c = record { filter = refl; port = refl; class = refl; bound = c.in-Some.ensures }

pub returns-in-None : goal.returns-in-None
returns-in-None g c = absurd (not_without c.args.accepted.now c.args.queue.now.filter c.args.queue.now.port c.args.queue.now.class c.args.queue.now.bound c.in-None.ensures c.requires.bound)
