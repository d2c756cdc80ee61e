use Rattle.std.proofs.Common.{arith, length, ◌-◌, ◌∙◌}
use Rattle.bridge_report.proofs.Fronts.{text_in_front}
use Rattle.bridge_report.proofs.line_block.LineBlock.prepend.Goals as goal

pub invariant_of-self : goal.invariant_of-self
invariant_of-self c = (omega (arith, c.self.invariant.0), text_in_front (c.self.inside.start - length c.args.piece.now) c.self.inside.start _ _ _ (omega arith) (omega (arith, c.self.told, c.self.invariant.0)) (c.copy_from_slice.ensures.after ∙ c.as_bytes.ensures.value) c.utf8.piece c.self.invariant.1)
