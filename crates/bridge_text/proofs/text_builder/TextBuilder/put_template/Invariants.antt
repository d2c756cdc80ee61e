use Rattle.bridge_text.specs.Growth.{IsLonger}
use Rattle.bridge_text.proofs.text_builder.TextBuilder.put_template.Given as goal

abbrev pub invariant-loop-piece : goal.invariant-loop-piece
invariant-loop-piece g l = IsLonger l.fn.self l.self
