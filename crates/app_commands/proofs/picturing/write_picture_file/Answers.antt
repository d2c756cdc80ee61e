use Rattle.std.proofs.Common.{subst}
use Rattle.std.specs.Io.KnownBytes.{Appends}
use Rattle.app_commands.proofs.picturing.write_picture_file.Goals as goal

pub returns-in-Ok-write_file-clause-written : goal.returns-in-Ok-write_file-clause-written
returns-in-Ok-write_file-clause-written g c = (c.in-Ok.output, subst (Appends _ _) c.as_bytes.ensures.value c.in-Ok-write_file.ensures.written)
