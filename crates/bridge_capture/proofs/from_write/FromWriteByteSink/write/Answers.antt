use Rattle.std.proofs.Common.{rules}
use Rattle.bridge_capture.proofs.from_write.FromWriteByteSink.write.Goals as goal

pub returns-in-Ok-clause-some : goal.returns-in-Ok-clause-some
returns-in-Ok-clause-some g c = search rules
