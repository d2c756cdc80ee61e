use Rattle.bridge_config.proofs.Own.{gates_kept}
use Rattle.bridge_config.proofs.gates.GateSectionSectionReader.read.Goals as goal

pub returns-clause-keeps : goal.returns-clause-keeps
returns-clause-keeps g c = gates_kept _ _ _ c.requires.keeps c.read_gate.ensures.own c.read_gate.ensures.priorities c.read_gate.ensures.lawful
