use Rattle.bridge_config.proofs.ports.read_port.Goals as goal

pub returns-clause-reads : goal.returns-clause-reads
returns-clause-reads g c = c.read_port_by_lookup.ensures.reads

pub returns-clause-own : goal.returns-clause-own
returns-clause-own g c = c.read_port_by_lookup.ensures.own

pub returns-clause-port : goal.returns-clause-port
returns-clause-port g c = c.read_port_by_lookup.ensures.port
