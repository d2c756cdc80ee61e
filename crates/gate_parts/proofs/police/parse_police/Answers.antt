use Rattle.std.proofs.Common.{◌≡◌, ◌∙◌, true, subst, sym}
use Rattle.std.proofs.lemmas.Bool.{and_parts}
use Rattle.bridge_filter.specs.Plans.{is_listed}
use Rattle.gate_parts.proofs.police.parse_police.Goals as goal

pub returns-in-Ok-clause-gate : goal.returns-in-Ok-clause-gate
returns-in-Ok-clause-gate g c = λ both.
    c.in-Ok.ensures.gates 1 (subst (λ l. is_listed 1 l ≡ true) c.deref.ensures.value (sym c.is_listed.ensures ∙ (and_parts _ _ both).0))

pub returns-in-Ok-clause-meter : goal.returns-in-Ok-clause-meter
returns-in-Ok-clause-meter g c = λ both.
    c.in-Ok.ensures.meters 5 (subst (λ l. is_listed 5 l ≡ true) c.deref-2.ensures.value (sym c.is_listed-2.ensures ∙ (and_parts _ _ both).1))
