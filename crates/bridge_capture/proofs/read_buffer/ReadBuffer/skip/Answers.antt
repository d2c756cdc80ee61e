use Rattle.std.proofs.Common.{arith}
use Rattle.bridge_capture.proofs.Parts.{range_rest}
use Rattle.bridge_capture.proofs.read_buffer.ReadBuffer.skip.Goals as goal

pub returns : goal.returns
returns g c =
    let w = c.args.self.now in
    range_rest w.octets.items w.start c.args.count w.end (omega (arith, c.requires))
