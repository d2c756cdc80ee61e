use Rattle.std.proofs.Common.{chars, flat_map, length, take}
use Rattle.bridge_text.specs.Escaped.{escaped_letter}
use Rattle.bridge_text.specs.Growth.{HasGrown}
use Rattle.bridge_text.proofs.text_builder.TextBuilder.put_escaped.Given as goal

abbrev pub invariant-loop-letter : goal.invariant-loop-letter
invariant-loop-letter g l = HasGrown l.fn.self (flat_map escaped_letter (take (length l.yielded) (chars l.piece))) l.self
