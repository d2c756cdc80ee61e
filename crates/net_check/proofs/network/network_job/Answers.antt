use Rattle.std.proofs.Common.{inl, inr, refl}
use Rattle.net_check.proofs.network.network_job.Goals as goal

pub returns-clause-err : goal.returns-clause-err
returns-clause-err g c = inr (inr (_, inr (_, c.in-Err.ensures.refused)))

pub returns-in-Ok-clause-err : goal.returns-in-Ok-clause-err
returns-in-Ok-clause-err g c = inl refl

pub returns-in-Ok-said-clause-ok : goal.returns-in-Ok-said-clause-ok
returns-in-Ok-said-clause-ok g c =
    let lines = c.in-Ok-said.ensures.lines in
    record {
      file = _;
      plans = _;
      network = c.in-Ok.network;
      is_made = c.in-Ok.ensures.accepted.0;
      accepted = c.in-Ok.ensures.accepted.1;
      suit = c.in-Ok.ensures.suit;
      are_lines = lines;
      delivered = c.describe_network-said.ensures.delivered _ lines.bounds c.in-Ok.ensures.accepted.0 c.in-Ok.ensures.accepted.1 lines.are_bounds;
      are_told = c.in-Ok-said.ensures.told;
    }
