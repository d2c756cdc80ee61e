use Rattle.std.proofs.Common.{◌++◌, ◌∙◌, ap, codes, string_bytes, subst, sym}
use Rattle.std.specs.Str.Pattern.{LacksTextAt}
use Rattle.bridge_text.proofs.Puts.{put_as, put_piece}
use Rattle.app_failure.proofs.Refused.{kept, said}
use Rattle.app_failure.proofs.refused_commands.put_commands_fault.Goals as goal

pub returns-in-Some : goal.returns-in-Some
returns-in-Some g c =
    let (x, found, behind, left) = c.in-Some.ensures.cases in
    let (at, front, more) = found in
    put_as _ _ _ _ (put_piece _ _ _ (codes "commands refused: ") _ c.put.ensures c.put-in-Some.ensures)
    (said c.args.fault.now (string_bytes c.in-Ok.line) c.in-Some.words.now c.in-Ok.ensures (sym c.as_str.ensures.value ∙ (front ∙ ap (λ l. codes "plan refused: " ++ l) (sym behind))))

pub returns : goal.returns
returns g c = put_as _ _ _ _ c.put-in-None.ensures (c.as_str-in-None.ensures.value ∙ kept c.args.fault.now (string_bytes c.in-Ok.line) c.in-Ok.ensures
    (subst (λ s. LacksTextAt (codes "plan refused: ") s 0) c.as_str.ensures.value c.in-None.ensures.cases))
