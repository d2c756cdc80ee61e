use Rattle.bridge_text.proofs.Longer.{twice}
use Rattle.bridge_text.proofs.text_builder.TextBuilder.put_template.Goals as goal

pub loop-piece-preserved : goal.loop-piece-preserved
loop-piece-preserved g c = twice _ _ _ c.loop-piece.invariant c.put_template_piece.ensures
