use Rattle.std.proofs.Common.{◌∙◌, sym}
use Rattle.bridge_check.proofs.Least.{acceptable, acceptable_groups}
use Rattle.bridge_check.proofs.validator.check.Goals as goal

pub invariant_of-result : goal.invariant_of-result
invariant_of-result g c =
    let none = sym c.in-Ok-None.ensures ∙ c.in-Ok-None.field-0-is in
    (c.ports.ensures.rules, acceptable c.args.plan none, acceptable_groups c.args.plan c.ports.ensures.rules none)

pub returns-in-Ok-None-clause-acceptable : goal.returns-in-Ok-None-clause-acceptable
returns-in-Ok-None-clause-acceptable g c = acceptable c.args.plan (sym c.in-Ok-None.ensures ∙ c.in-Ok-None.field-0-is)

pub returns-in-Ok-None-clause-grouped : goal.returns-in-Ok-None-clause-grouped
returns-in-Ok-None-clause-grouped g c = acceptable_groups c.args.plan c.ports.ensures.rules (sym c.in-Ok-None.ensures ∙ c.in-Ok-None.field-0-is)
