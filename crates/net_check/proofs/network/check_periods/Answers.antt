use Rattle.std.proofs.Common.{◌≡◌, None, subst, sym, ◌∙◌}
use Rattle.net_latency.specs.Talkers.{first_misfit}
use Rattle.net_check.proofs.network.check_periods.Goals as goal

pub returns-in_default-clause-suit : goal.returns-in_default-clause-suit
returns-in_default-clause-suit g c =
    subst (λ ps. first_misfit ps 1 c.args.file.now.streams ≡ None) c.plans.ensures.plans
    (subst (λ ss. first_misfit c.plans.result.now 1 ss ≡ None) c.streams.ensures.streams (sym c.first_misfit.ensures ∙ c.in_default.is))
