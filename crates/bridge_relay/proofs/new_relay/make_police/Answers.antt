use Rattle.bridge_relay.proofs.new_relay.make_police.Goals as goal

pub new-requires-clause-filters : goal.new-requires-clause-filters
new-requires-clause-filters g c = rw (c.in-Ok.ensures.items, c.filters.ensures.filters) c.filters.ensures.rules.filters.own

pub new-requires-clause-gates : goal.new-requires-clause-gates
new-requires-clause-gates g c = rw (c.in-Ok-copy_gates.ensures, c.gates.ensures.gates) c.filters.ensures.rules.gates.own

pub new-requires-clause-meters : goal.new-requires-clause-meters
new-requires-clause-meters g c = rw (c.in-Ok-from_slice.ensures.items, c.meters.ensures.meters) c.filters.ensures.rules.meters.own

pub new-requires-clause-instances : goal.new-requires-clause-instances
new-requires-clause-instances g c = rw (c.in-Ok.ensures.items, c.filters.ensures.filters, c.in-Ok-copy_gates.ensures, c.gates.ensures.gates, c.in-Ok-from_slice.ensures.items, c.meters.ensures.meters) c.filters.ensures.rules.filters.instances

pub new-requires-clause-priorities : goal.new-requires-clause-priorities
new-requires-clause-priorities g c = rw (c.in-Ok-copy_gates.ensures, c.gates.ensures.gates) c.filters.ensures.rules.gates.priorities

pub new-requires-clause-limits : goal.new-requires-clause-limits
new-requires-clause-limits g c = rw (c.in-Ok-from_slice.ensures.items, c.meters.ensures.meters) c.filters.ensures.rules.meters.limits

pub returns-clause-stands : goal.returns-clause-stands
returns-clause-stands g c = rw (c.in-Ok.ensures.items, c.filters.ensures.filters, c.in-Ok-copy_gates.ensures, c.gates.ensures.gates, c.in-Ok-from_slice.ensures.items, c.meters.ensures.meters) at c.in-Ok-new.ensures.stands

pub returns-clause-gates : goal.returns-clause-gates
returns-clause-gates g c = λ n there. c.in-Ok-new.ensures.gates n (rw (c.in-Ok-copy_gates.ensures, c.gates.ensures.gates) there)

pub returns-clause-meters : goal.returns-clause-meters
returns-clause-meters g c = λ n there. c.in-Ok-new.ensures.meters n (rw (c.in-Ok-from_slice.ensures.items, c.meters.ensures.meters) there)
