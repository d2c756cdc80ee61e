use Rattle.std.proofs.Common.{◌≡◌, ◌+◌, ◌-◌, take, drop, ap, sym, ◌∙◌, arith, rules, length-drop}
use lib.Seq.{paste}
use Rattle.std.proofs.lemmas.List.{with_items_is, places, drop-take}
use Rattle.std.proofs.lemmas.List.Edits.{take-paste}
use Rattle.bridge_capture.proofs.write_buffer.WriteBuffer.skip.Goals as goal

pub returns-clause-octets : goal.returns-clause-octets
returns-clause-octets g c =
    let all = c.as_mut_slice.result.now in
    let held = c.args.self.now.count in
    let left = held - c.args.count in
    let same : left ≡ 0 + left = omega arith in
    let whole : c.args.count + left ≡ held = omega (arith, c.requires) in
    ap (take left) (with_items_is c.args.self.now.octets c.copy_within.new.self (search (rules, places)) ∙ c.copy_within.ensures.after)
    ∙ ap (λ n. take n (paste all 0 (drop c.args.count all) left)) same
    ∙ take-paste all 0 (drop c.args.count all) left (omega arith) (omega (arith, length-drop c.args.count all))
    ∙ sym (drop-take c.args.count left all) ∙ ap (λ n. drop c.args.count (take n all)) whole
    ∙ ap (λ octets. drop c.args.count (take held octets)) c.as_mut_slice.ensures.value
