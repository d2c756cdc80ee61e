use Rattle.std.proofs.Common.{rules}
use Rattle.bridge_capture.proofs.from_read.FromReadByteSource.read.Goals as goal

pub returns-in-Ok-clause-bytes : goal.returns-in-Ok-clause-bytes
returns-in-Ok-clause-bytes g c = search rules
