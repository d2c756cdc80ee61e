use Rattle.std.proofs.Common.{◌+◌, ◌++◌, length, slice_range, sym, ap, ◌∙◌, arith}
use Rattle.bridge_capture.proofs.Parts.{range_split}
use Rattle.bridge_capture.proofs.read_buffer.ReadBuffer.copy_front.Goals as goal

pub returns-clause-given : goal.returns-clause-given
returns-clause-given g c =
    let w = c.args.self.now in
    let to = w.start + length c.args.buf.now in
    let given = c.copy_from_slice.ensures.after ∙ ap (λ octets. slice_range octets w.start to) c.deref.ensures.value in
    range_split w.octets.items w.start to w.end (omega arith) (omega (arith, c.requires))
    ∙ ap (λ first. first ++ slice_range w.octets.items to w.end) (sym given)
