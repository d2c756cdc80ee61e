use Rattle.bridge_groups.proofs.Limits.{captured_sdus, padded_sdus}
use Rattle.bridge_groups.proofs.laws.frames_have_sdus.Goals as goal

pub returns-clause-captured : goal.returns-clause-captured
returns-clause-captured c = captured_sdus

pub returns-clause-padded : goal.returns-clause-padded
returns-clause-padded c = padded_sdus
