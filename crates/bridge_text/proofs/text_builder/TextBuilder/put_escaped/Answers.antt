use Rattle.std.proofs.Common.{arith, chars, flat_map, length, subst, sym, take}
use Rattle.std.proofs.lemmas.Iterator.{YieldsList-from_chars}
use Rattle.std.proofs.lemmas.Iterator.Consumers.{YieldsList-end, YieldsList-turn}
use Rattle.std.proofs.lemmas.List.{length_push}
use Rattle.bridge_text.specs.Escaped.{escaped, escaped_letter}
use Rattle.bridge_text.specs.Growth.{HasGrown}
use Rattle.bridge_text.proofs.Puts.{all_put, item_put}
use Rattle.bridge_text.proofs.text_builder.TextBuilder.put_escaped.Goals as goal

pub loop-letter-preserved : goal.loop-letter-preserved
loop-letter-preserved g c =
    let letters = chars c.args.piece.now in
    let turn = YieldsList-turn (YieldsList-from_chars c.args.piece.now c.utf8.piece cc) c.loop-letter.yielded _ c.loop-letter.yielded_by _ _ c.in-Some.letter c.in-Some.is c.next.ensures.steps in
    subst (λ n. HasGrown c.args.self.now (flat_map escaped_letter (take n letters)) c.put_letter.new.self) (sym (length_push c.loop-letter.yielded c.in-Some.letter))
    (item_put escaped_letter letters (length c.loop-letter.yielded) _ _ _ c.in-Some.letter turn.0 turn.1 c.loop-letter.invariant c.put_letter.ensures)

pub returns : goal.returns
unfolding escaped
returns g c =
    let letters = chars c.args.piece.now in
    let end = YieldsList-end (YieldsList-from_chars c.args.piece.now c.utf8.piece cc) c.loop-letter.yielded _ c.loop-letter.yielded_by _ _ c.in-None.is c.next.ensures.steps in
    all_put escaped_letter letters (length c.loop-letter.yielded) _ _ (omega (arith, end.1)) c.loop-letter.invariant
