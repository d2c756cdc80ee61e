use Rattle.app_networks.proofs.incoming.read_commands.Goals as goal

pub returns-clause-ends : goal.returns-clause-ends
returns-clause-ends g c = c.bridge_commands.ensures.ends c.args.folder.now
