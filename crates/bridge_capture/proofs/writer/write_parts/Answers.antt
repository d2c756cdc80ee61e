use Rattle.bridge_capture.proofs.Written.{front_of_second}
use Rattle.bridge_capture.proofs.writer.write_parts.Goals as goal

pub returns-in-Err-write_all-clause-err : goal.returns-in-Err-write_all-clause-err
returns-in-Err-write_all-clause-err g c = front_of_second _ _ _ c.args.words.now c.args.octets.now c.in-Ok.ensures.all c.in-Err-write_all.ensures.front
