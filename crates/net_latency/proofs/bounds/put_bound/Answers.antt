use Rattle.std.proofs.lemmas.Option.{slice_get-get_or}
use Rattle.net_latency.proofs.Bounded.{found_own, no_bound, one_bound}
use Rattle.net_latency.proofs.bounds.put_bound.Goals as goal

pub bound_in_reach-requires-clause-found : goal.bound_in_reach-requires-clause-found
bound_in_reach-requires-clause-found g c = found_own c.args.accepted.now c.args.order.now c.args.at _ c.requires.at c.requires.rises c.requires.same

pub bound_in_reach-requires-clause-reach : goal.bound_in_reach-requires-clause-reach
bound_in_reach-requires-clause-reach g c = c.requires.reach _ (slice_get-get_or c.args.order.now c.args.at _ c.requires.at)

pub returns-in_ok-push : goal.returns-in_ok-push
returns-in_ok-push g c = record {
  one_more = one_bound c.args.accepted.now c.args.order.now c.args.at c.args.place _ c.args.rows.now.items c.requires.at c.requires.rises c.requires.so_far c.in-Some.bound c.push.new.self.items c.in-Some.ensures c.in_ok-push.ensures.items;
}

pub returns-in_default : goal.returns-in_default
returns-in_default g c = record {
  one_more = no_bound c.args.accepted.now c.args.order.now c.args.at c.args.place _ c.args.rows.now.items c.requires.at c.requires.rises c.requires.so_far c.requires.same c.in_default.ensures;
}
