use Rattle.bridge_events.proofs.Trees.{settled}
use Rattle.bridge_events.proofs.tree_agenda.put_key.Goals as goal

pub returns-clause-won : goal.returns-clause-won
returns-clause-won c = settled c.args.keys.now c.args.firsts.now c.args.place c.args.key c.least_of_four.result c.requires.place c.told-keys c.told-firsts c.least_of_four.ensures c.requires.won
