use Rattle.bridge_text.proofs.Longer.{grown, twice}
use Rattle.bridge_text.proofs.text_builder.TextBuilder.put_template_piece.Goals as goal

pub returns-in-Some : goal.returns-in-Some
returns-in-Some g c = twice _ _ _ c.put_placeholder.ensures (grown _ _ _ c.put.ensures)
