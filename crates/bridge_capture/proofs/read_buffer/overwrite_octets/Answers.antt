use Rattle.std.proofs.Common.{rules}
use Rattle.std.proofs.lemmas.List.{with_items_is, places}
use Rattle.bridge_capture.proofs.read_buffer.overwrite_octets.Goals as goal

pub returns-clause-bytes : goal.returns-clause-bytes
returns-clause-bytes g c = rw (with_items_is c.args.octets.now c.read.new.buf (search (rules, places))) (search rules)
