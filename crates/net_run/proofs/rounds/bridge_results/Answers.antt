use Rattle.std.proofs.Common.{◌∙◌}
use Rattle.net_run.proofs.rounds.bridge_results.Goals as goal

pub returns : goal.returns
returns g c = record { outcomes = c.in_ok-results.ensures.outcomes ∙ c.in_ok-ended.ensures.outcomes; taps = c.in_ok-results.ensures.taps ∙ c.in_ok-ended.ensures.taps }
