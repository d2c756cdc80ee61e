use Rattle.bridge_config.proofs.Own.{ports_kept}
use Rattle.bridge_config.proofs.ports.PortSectionSectionReader.read.Goals as goal

pub returns-clause-keeps : goal.returns-clause-keeps
returns-clause-keeps g c = ports_kept _ _ _ c.requires.keeps c.read_port.ensures.own c.read_port.ensures.port
