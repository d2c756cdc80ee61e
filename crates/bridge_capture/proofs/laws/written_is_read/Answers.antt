use Rattle.bridge_capture.proofs.Again.{again}
use Rattle.bridge_capture.proofs.laws.written_is_read.Goals as goal

pub returns : goal.returns
returns c = again
