use Rattle.app_networks.proofs.Within.{copy_within, delays_within}
use Rattle.app_networks.proofs.laws.measured_within_bound.Goals as goal

pub returns-clause-copy : goal.returns-clause-copy
returns-clause-copy g c = λ f plans n came settled o bounds s hops r legs i h d made network none ran outcomes are is told there listed over once.
    copy_within f plans n made bounds s o hops told network none came settled ran outcomes are is r legs i h d there listed over once

pub returns-clause-delays : goal.returns-clause-delays
returns-clause-delays g c = λ f plans n came settled o bounds s hops all i h known ways delay made network none ran outcomes are is told traced there of once listed.
    delays_within f plans n made bounds s o hops told network none came settled ran outcomes are is all i h known ways delay traced there of once listed
