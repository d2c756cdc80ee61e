use Rattle.std.proofs.Common.{rules}
use Rattle.bridge_frame.proofs.occupation.Goals as goal

pub returns-in-Mbps10-clause-exact : goal.returns-in-Mbps10-clause-exact
unfolding Rattle.bridge_frame.specs.Link.transmission_time
returns-in-Mbps10-clause-exact c = search rules

pub returns-in-Mbps100-clause-exact : goal.returns-in-Mbps100-clause-exact
unfolding Rattle.bridge_frame.specs.Link.transmission_time
returns-in-Mbps100-clause-exact c = search rules

pub returns-in-Mbps1000-clause-exact : goal.returns-in-Mbps1000-clause-exact
unfolding Rattle.bridge_frame.specs.Link.transmission_time
returns-in-Mbps1000-clause-exact c = search rules

pub returns-in-Mbps2500-clause-exact : goal.returns-in-Mbps2500-clause-exact
unfolding Rattle.bridge_frame.specs.Link.transmission_time
returns-in-Mbps2500-clause-exact c = search rules

pub returns-in-Mbps10000-clause-exact : goal.returns-in-Mbps10000-clause-exact
unfolding Rattle.bridge_frame.specs.Link.transmission_time
returns-in-Mbps10000-clause-exact c = search rules
