use Rattle.std.proofs.Common.{◌≡◌, List, ℕ, [], arith, drop, length, subst, sym, ap, ◌∙◌}
use Rattle.std.proofs.Math.Seq.{drop-length}
use Rattle.std.proofs.lemmas.Str.{IsUtf8-nil}
use Rattle.std.specs.Str.{IsUtf8}
use Rattle.bridge_report.proofs.line_block.LineBlock.clear.Goals as goal

none_left : (xs : List ℕ) (n : ℕ) → n ≡ length xs → drop n xs ≡ []
none_left xs n is = ap (λ k. drop k xs) is ∙ drop-length xs

pub invariant_of-self : goal.invariant_of-self
invariant_of-self c = (omega arith, subst IsUtf8 (sym (none_left c.self.inside.octets 1920 (sym c.self.told))) IsUtf8-nil)

pub returns : goal.returns
returns c = none_left c.self.inside.octets 1920 (sym c.self.told)
