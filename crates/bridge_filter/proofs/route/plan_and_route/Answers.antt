use Rattle.bridge_filter.proofs.route.plan_and_route.Goals as goal

pub instance_index-requires : goal.instance_index-requires
instance_index-requires g c = c.requires.gates c.in-Some.number.now c.in-Some.filter.now c.in-Some.ensures.value

pub optional_index-requires : goal.optional_index-requires
optional_index-requires g c = c.requires.meters c.in-Some.number.now c.in-Some.filter.now c.in-Some.ensures.value
